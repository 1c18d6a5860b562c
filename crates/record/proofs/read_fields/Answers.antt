-- Each turn fills one more place, or leaves it empty where nothing is left; what is left and is no field ends the turns.
-- Assumes nothing.
use mathlib.Core.Path.{◌∙◌, sym}
use native.Mathlib.Omega.{arith}
use Rattle.std.proofs.Common.{rules}
use Rattle.model.specs.Texts.{read_fields}
use Rattle.steps.specs.Steps.{left}
use Rattle.record.proofs.RowLaws.{row_breaks, row_ends, row_goes, row_rests}
use Rattle.record.proofs.read_fields.Goals as goal
use Rattle.record.proofs.read_fields.Goals.{then-is_done, else-is_done+in_ok-field}

pub loop-place-preserved : goal.loop-place-preserved
loop-place-preserved c =
    let L = c.loop-place in
    elim c.if-is_done.branch [
      | then-is_done w ↦ rw (w.place-is, w.rest-is) (row_rests (read_fields 8 (left c.args.rest)) L.place-items L.place-index (left L.rest) L.invariant (omega arith) (sym c.is_done.ensures ∙ w.if-is_done.true))
      | else-is_done+in_ok-field w ↦
          rw (w.place-is, w.rest-is) (row_goes (read_fields 8 (left c.args.rest)) L.place-items L.place-index L.rest w.field.new.self w.field.result w.in_ok-field.field-0 L.invariant (omega arith) w.in_ok-field.was w.field.ensures)
    ]

pub returns-in_err-field : goal.returns-in_err-field
returns-in_err-field c =
    let L = c.loop-place in
    rw c.from_residual.ensures (row_breaks (read_fields 8 (left c.args.rest)) L.place-items L.place-index L.rest c.field.new.self c.field.result L.invariant (sym c.is_done.ensures ∙ c.if-is_done.false) c.in_err-field.was c.field.ensures)

pub returns : goal.returns
returns c =
    let L = c.loop-place in
    row_ends (read_fields 8 (left c.args.rest)) L.place-items L.place-index (left L.rest) tt L.invariant (omega arith) (search rules)
