-- The digits that are left, read on from what has been read, give the number of all of them.
-- Assumes nothing.
use mathlib.Core.Path.{◌≡◌}
use Prim.Native.Nat.{◌≤◌}
use lib.ListN.{drop}
use Rattle.model.specs.Numbers.{dec_digit, num_from}
use Rattle.text.proofs.numbers.dec_value.Given as goal

abbrev pub invariant-loop-b : goal.invariant-loop-b
invariant-loop-b l = (l.acc ≤ l.limit) × (num_from dec_digit 10 0 l.s ≡ num_from dec_digit 10 l.acc (drop l.b-index l.s))
