-- Those come to so far are seen, and the others as they were.
-- Assumes nothing.
use Rattle.view.specs.Seen.{seen_table}
use Rattle.view.proofs.Arrays.{Turned}
use Rattle.view.proofs.view_tables.Given as goal

abbrev pub invariant-loop-t : goal.invariant-loop-t
invariant-loop-t l = Turned (seen_table l.c) l.fn.tables l.t-items l.t-index
