-- The front panel's one function. 01, "Sheets and tapes", last paragraph.
-- Assumes nothing.
use Rattle.std.specs.Prelude.{cond, ℕ, ◌+◌, ◌*◌, leb, ltb, length}
use Rattle.model.specs.declared.Reply.{Reply}
use Rattle.model.specs.declared.Reply.TheVariants.{RoomShort, SheetLong}
use Rattle.model.specs.Replies.{number, accepts}
use Rattle.model.specs.Numbers.{Bytes}
use Rattle.model.specs.Sheets.{SHEET, Reading, refused, taken, sheet_text, read_sheet, judged}
use Rattle.model.specs.Rooms.{written}
use Rattle.model.specs.Verdicts.{Outcome, outcome}
use Rattle.model.specs.Bench.{sheet_only}

-- the number that is handed back, and both rooms at exit
pub record Shut : Type 0 where
  pub number : ℕ
  pub rows : Bytes
  pub sheet : Bytes

unfoldable pub packed_number : Reply → ℕ → ℕ → ℕ
packed_number r answer sheet = number r + 256 * answer + 4294967296 * sheet

-- a refusal: lengths 0, both rooms as they were
unfoldable pub turned_away : Reply → Bytes → Bytes → Shut
turned_away r rows sheet = record { number = packed_number r 0 0; rows = rows; sheet = sheet }

module _ (w : ℕ) where
  -- the sheet: 22, 20 (a VIEW too), 21
  unfoldable pub panel_reading : Bytes → Reading
  panel_reading bs = cond (leb (length bs) 65536) (judged w (sheet_only (read_sheet w bs))) (refused SheetLong)

  -- the command's outcome, and the new sheet
  unfoldable pub answered_by : Outcome → Bytes → Bytes → Shut
  answered_by x rows sheet =
      cond (accepts x.reply)
      (record {
        number = packed_number x.reply x.length (length (sheet_text w SHEET x.store));
        rows = x.room;
        sheet = written (sheet_text w SHEET x.store) sheet;
      })
      (turned_away x.reply rows sheet)

  unfoldable pub commanded : Reading → Bytes → Bytes → Bytes → Shut
  commanded (refused r) line rows sheet = turned_away r rows sheet
  commanded (taken h s) line rows sheet = answered_by (outcome w s (record { line = line; room = rows })) rows sheet

  -- a sheet room below 65,536 bytes is 14 before all else
  unfoldable pub panel : Bytes → Bytes → Bytes → Bytes → Shut
  panel bs line rows sheet = cond (ltb (length sheet) 65536) (turned_away RoomShort rows sheet) (commanded (panel_reading bs) line rows sheet)
