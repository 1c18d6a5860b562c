-- Those come to so far are seen, and the others as they were.
-- Assumes nothing.
use Rattle.view.specs.Seen.{seen_berth}
use Rattle.view.proofs.Arrays.{Turned}
use Rattle.view.proofs.view_berths.Given as goal

abbrev pub invariant-loop-b : goal.invariant-loop-b
invariant-loop-b l = Turned (seen_berth l.c) l.fn.berths l.b-items l.b-index
