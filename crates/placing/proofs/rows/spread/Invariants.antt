-- The first columns have their fields, the row is blank from there on, and the fields that are not used go to the other columns.
-- Assumes nothing.
use Rattle.placing.proofs.RowLaws.{Spreading}
use Rattle.placing.proofs.rows.spread.Given as goal

abbrev pub invariant-loop-i : goal.invariant-loop-i
invariant-loop-i l = Spreading l.fn.columns l.fn.fields l.i l.used l.row
