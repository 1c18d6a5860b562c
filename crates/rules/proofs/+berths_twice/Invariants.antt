-- Each call has fewer berths.
-- Assumes nothing.
use Rattle.std.proofs.Common.{length}
use Rattle.rules.proofs.+berths_twice.Given as goal

abbrev pub decreases-berths_twice : goal.decreases-berths_twice
decreases-berths_twice l = length l.l.now
