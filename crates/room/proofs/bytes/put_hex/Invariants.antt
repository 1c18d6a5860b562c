-- The last k digits are left to be written.
-- Assumes nothing.
use Rattle.model.specs.Numbers.{digits}
use Rattle.room.proofs.RoomLaws.{LeftIn}
use Rattle.room.proofs.bytes.put_hex.Given as goal

abbrev pub invariant-loop-k : goal.invariant-loop-k
invariant-loop-k l = LeftIn l.initial.room l.fn.at (digits 16 l.n l.v) l.place l.room (digits 16 l.k l.v)
