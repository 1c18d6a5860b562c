-- The next row is kept, or not.
-- Assumes nothing.
use mathlib.Core.Path.{◌∙◌, ap, sym}
use native.Mathlib.Omega.{arith}
use Rattle.std.proofs.lemmas.Grind.{common_steps}
use Rattle.view.specs.Seen.{with_rows}
use Rattle.view.proofs.Arrays.{pad_more}
use Rattle.view.proofs.RowLaws.{row_in, row_out}
use Rattle.view.proofs.keep_rows.Goals as goal
use Rattle.view.proofs.keep_rows.Goals.{then-dominates, else-dominates}

pub loop-row-preserved : goal.loop-row-preserved
loop-row-preserved c =
    let a = c.args in
    let l = c.loop-row in
    let rows = c.held-row-items.result.now in
    elim c.if-dominates.branch [
      | then-dominates w ↦
          (let e = row_in a.c l.kept.columns rows l.row-index _ c.loop-row-test.true (sym c.dominates.ensures ∙ w.if-dominates.true) in
          record { so_far = grind (arith, common_steps, pad_more); short = grind arith })
      | else-dominates w ↦
          (let e = row_out a.c a.kept.now.columns rows l.row-index _ c.loop-row-test.true (sym c.dominates.ensures ∙ w.if-dominates.false) in
          record { so_far = w.kept-is ∙ l.invariant.so_far ∙ ap (with_rows a.kept.now) (sym e); short = grind arith })
    ]
