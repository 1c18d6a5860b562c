-- The directories come to so far are seen, and the others as they were.
-- Assumes nothing.
use Rattle.view.specs.Seen.{seen_directory}
use Rattle.view.proofs.Arrays.{Turned}
use Rattle.view.proofs.view_store.Given as goal

abbrev pub invariant-loop-d : goal.invariant-loop-d
invariant-loop-d l = Turned (seen_directory l.c) l.fn.s.dirs l.d-items l.d-index
