-- The digits that are left, read on from what has been read, give the number of all of them; i digits take 4 i bits.
-- Assumes nothing.
use mathlib.Core.Path.{◌≡◌}
use Prim.Native.Nat.{◌*◌, ◌<◌, ◌^◌}
use lib.ListN.{drop, length}
use Rattle.model.specs.Numbers.{hex_digit, num_from}
use Rattle.text.proofs.numbers.read_hex.Given as goal

abbrev pub invariant-loop-b : goal.invariant-loop-b
invariant-loop-b l = (length l.s ≡ l.n) × (l.acc < 2 ^ (4 * l.b-index)) × (num_from hex_digit 16 0 l.s ≡ num_from hex_digit 16 l.acc (drop l.b-index l.s))
