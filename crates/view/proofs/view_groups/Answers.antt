-- Each in its place.
-- Assumes nothing.
use mathlib.Core.Path.{◌≡◌}
use native.Mathlib.Omega.{arith}
use Rattle.std.proofs.Common.{rules, length}
use Rattle.view.specs.Seen.{seen_group}
use Rattle.view.proofs.Arrays.{turned_first, turned_last, turned_next}
use Rattle.view.proofs.view_groups.Goals as goal

pub loop-g-init : goal.loop-g-init
loop-g-init c = let a = c.args in turned_first (seen_group a.c) a.groups

pub loop-g-preserved : goal.loop-g-preserved
loop-g-preserved c =
    let a = c.args in
    let L = c.loop-g in
    let all : length a.groups ≡ 4 = search rules in
    turned_next (seen_group a.c) a.groups L.g-items L.g-index c.view_group.result _ (omega (arith, all, L.invariant.long)) c.view_group.ensures L.invariant

pub returns : goal.returns
returns c =
    let a = c.args in
    let L = c.loop-g in
    let all : length a.groups ≡ 4 = search rules in
    turned_last (seen_group a.c) a.groups L.g-items L.g-index (omega (arith, all, L.invariant.long)) L.invariant
