-- Those come to so far are seen, and the others as they were.
-- Assumes nothing.
use Rattle.view.specs.Seen.{seen_group}
use Rattle.view.proofs.Arrays.{Turned}
use Rattle.view.proofs.view_groups.Given as goal

abbrev pub invariant-loop-g : goal.invariant-loop-g
invariant-loop-g l = Turned (seen_group l.c) l.fn.groups l.g-items l.g-index
