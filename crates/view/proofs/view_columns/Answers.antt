-- Each in its place.
-- Assumes nothing.
use mathlib.Core.Path.{◌≡◌}
use native.Mathlib.Omega.{arith}
use Rattle.std.proofs.Common.{rules, length}
use Rattle.view.specs.Seen.{seen_column}
use Rattle.view.proofs.Arrays.{turned_first, turned_last, turned_next}
use Rattle.view.proofs.view_columns.Goals as goal

pub loop-k-init : goal.loop-k-init
loop-k-init c = let a = c.args in turned_first (seen_column a.groups) a.columns

pub loop-k-preserved : goal.loop-k-preserved
loop-k-preserved c =
    let a = c.args in
    let L = c.loop-k in
    let all : length a.columns ≡ 8 = search rules in
    turned_next (seen_column a.groups) a.columns L.k-items L.k-index c.view_column.result _ (omega (arith, all, L.invariant.long)) c.view_column.ensures L.invariant

pub returns : goal.returns
returns c =
    let a = c.args in
    let L = c.loop-k in
    let all : length a.columns ≡ 8 = search rules in
    turned_last (seen_column a.groups) a.columns L.k-items L.k-index (omega (arith, all, L.invariant.long)) L.invariant
