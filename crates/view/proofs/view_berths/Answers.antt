-- Each in its place.
-- Assumes nothing.
use mathlib.Core.Path.{◌≡◌}
use native.Mathlib.Omega.{arith}
use Rattle.std.proofs.Common.{rules, length}
use Rattle.view.specs.Seen.{seen_berth}
use Rattle.view.proofs.Arrays.{turned_first, turned_last, turned_next}
use Rattle.view.proofs.view_berths.Goals as goal

pub loop-b-init : goal.loop-b-init
loop-b-init c = let a = c.args in turned_first (seen_berth a.c) a.berths

pub loop-b-preserved : goal.loop-b-preserved
loop-b-preserved c =
    let a = c.args in
    let L = c.loop-b in
    let all : length a.berths ≡ 4 = search rules in
    turned_next (seen_berth a.c) a.berths L.b-items L.b-index c.view_berth.result _ (omega (arith, all, L.invariant.long)) c.view_berth.ensures L.invariant

pub returns : goal.returns
returns c =
    let a = c.args in
    let L = c.loop-b in
    let all : length a.berths ≡ 4 = search rules in
    turned_last (seen_berth a.c) a.berths L.b-items L.b-index (omega (arith, all, L.invariant.long)) L.invariant
