-- The tables, each in its place as the clearance sees it.
-- Assumes nothing.
use mathlib.Core.Path.{◌∙◌, ◌≡◌}
use native.Mathlib.Omega.{arith}
use Rattle.std.proofs.Common.{rules, length}
use Rattle.view.specs.Seen.{seen_table}
use Rattle.view.proofs.Arrays.{turned_first, turned_last, turned_next}
use Rattle.view.proofs.TableLaws.{tables_seen}
use Rattle.view.proofs.view_tables.Goals as goal

pub loop-t-init : goal.loop-t-init
loop-t-init c = turned_first (seen_table c.args.c) c.args.tables

pub loop-t-preserved : goal.loop-t-preserved
loop-t-preserved c =
    let a = c.args in
    let L = c.loop-t in
    let all : length a.tables ≡ 2 = search rules in
    turned_next (seen_table a.c) a.tables L.t-items L.t-index c.view_table.result _ (omega (arith, all, L.invariant.long)) c.view_table.ensures L.invariant

pub returns : goal.returns
returns c =
    let a = c.args in
    let L = c.loop-t in
    let all : length a.tables ≡ 2 = search rules in
    turned_last (seen_table a.c) a.tables L.t-items L.t-index (omega (arith, all, L.invariant.long)) L.invariant ∙ tables_seen a.c a.k _ (search rules)
