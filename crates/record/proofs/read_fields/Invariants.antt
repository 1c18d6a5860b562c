-- The first places hold the fields that were read, as many as there are places, or no more can be read.
-- Assumes nothing.
use Rattle.model.specs.Texts.{read_fields}
use Rattle.steps.specs.Steps.{left}
use Rattle.record.proofs.RowLaws.{Going}
use Rattle.record.proofs.read_fields.Given as goal

abbrev pub invariant-loop-place : goal.invariant-loop-place
invariant-loop-place l = Going (read_fields 8 (left l.fn.rest)) l.place-items l.place-index (left l.rest)
