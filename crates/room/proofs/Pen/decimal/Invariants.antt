-- The digits that were yielded are written.
-- Assumes nothing.
use Rattle.std.proofs.Common.{map, ℕ, Bor}
use Rattle.room.specs.Writing.{Writes}
use Rattle.room.proofs.Pen.decimal.Given as goal

abbrev pub invariant-loop-digit : goal.invariant-loop-digit
invariant-loop-digit l = Writes l.initial.self (map (λ (y : Bor ℕ). y.now) l.yielded) l.self
