-- Rooms: the bytes that a caller lends for what is to be written. 01, "Reply numbers": row 14, and the sentences below the table.
-- Assumes nothing.
use Rattle.std.specs.Prelude.{cond, ◌++◌, ℕ, ltb, length, drop}
use Rattle.model.specs.declared.Reply.{Reply}
use Rattle.model.specs.declared.Reply.TheVariants.{Done, RoomShort, RuleBroken}
use Rattle.model.specs.Parts.{Store}
use Rattle.model.specs.Numbers.{Bytes}
use Rattle.model.specs.Sheets.{Heading, sheet_text, may_stand}

-- a room that was written: the text from its start; its other bytes stay
unfoldable pub written : Bytes → Bytes → Bytes
written text room = text ++ drop (length text) room

-- what a writer leaves: its reply, how many bytes it wrote, and the room
pub record Wrote : Type 0 where
  pub reply : Reply
  pub length : ℕ
  pub room : Bytes

unfoldable pub unwritten : Reply → Bytes → Wrote
unwritten r room = record { reply = r; length = 0; room = room }

-- 14 where the room is shorter than the text
unfoldable pub put_into : Bytes → Bytes → Wrote
put_into room text = cond (ltb (length room) (length text)) (unwritten RoomShort room) (record { reply = Done; length = length text; room = written text room })

-- a store written under a heading: 21 before 14
unfoldable pub writing : ℕ → Heading → Store → Bytes → Wrote
writing w h s room = cond (may_stand w h s) (put_into room (sheet_text w h s)) (unwritten RuleBroken room)
