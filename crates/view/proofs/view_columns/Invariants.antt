-- Those come to so far are seen, and the others as they were.
-- Assumes nothing.
use Rattle.view.specs.Seen.{seen_column}
use Rattle.view.proofs.Arrays.{Turned}
use Rattle.view.proofs.view_columns.Given as goal

abbrev pub invariant-loop-k : goal.invariant-loop-k
invariant-loop-k l = Turned (seen_column l.groups) l.fn.columns l.k-items l.k-index
