-- The end of the text is left to be written.
-- Assumes nothing.
use Rattle.std.proofs.Common.{drop}
use Rattle.room.proofs.RoomLaws.{LeftIn}
use Rattle.room.proofs.bytes.put_text.Given as goal

abbrev pub invariant-loop-b : goal.invariant-loop-b
invariant-loop-b l = LeftIn l.initial.room l.fn.at l.text l.place l.room (drop l.b-index l.text)
