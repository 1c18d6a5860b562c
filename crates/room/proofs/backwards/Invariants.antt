-- So many digits are made, and those of `rest` are left: there are twenty at most.
-- Assumes nothing.
use Rattle.std.proofs.Common.{◌≡◌, ◌+◌, ◌/◌, ◌^◌, ◌≤◌, length, reverse}
use Rattle.model.specs.Numbers.{digits, places}
use Rattle.room.proofs.backwards.Given as goal

abbrev pub invariant-loop-rest : goal.invariant-loop-rest
invariant-loop-rest l = record {
  left : l.rest ≡ l.v / 10 ^ length l.made.items;
  few : length l.made.items + places l.rest l.rest ≡ places l.v l.v;
  most : places l.v l.v ≤ 20;
  digits : reverse l.made.items ≡ digits 10 (length l.made.items) l.v;
}

abbrev pub decreases-loop-rest : goal.decreases-loop-rest
decreases-loop-rest l = l.rest
