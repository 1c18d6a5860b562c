-- The bench program, from the bytes that it reads to the bytes that it writes. 01, "Sheets and tapes", the paragraph of that name.
-- Assumes nothing.
use Rattle.std.specs.Prelude.{Bool, true, false, cond, List, [], ◌∷◌, ◌++◌, map, ℕ, suc, leb, length}
use Rattle.std.specs.Prelude.{Option, None, Some}
use Rattle.model.specs.declared.Reply.{Reply}
use Rattle.model.specs.declared.Reply.TheVariants.{SheetLong, BadSheet}
use Rattle.model.specs.Places.{when}
use Rattle.model.specs.Parts.{Store}
use Rattle.model.specs.Replies.{number}
use Rattle.model.specs.Numbers.{Bytes, bytes, dec_text}
use Rattle.model.specs.Lines.{split, line_of, ended, is_text}
use Rattle.model.specs.Sheets.{Heading, SHEET, VIEW, Reading, refused, taken, sheet_text, read_lines, judged}
use Rattle.model.specs.Commands.{Line, nobodys, read_line}
use Rattle.model.specs.Answers.{answer_text}
use Rattle.model.specs.Verdicts.{Verdict, verdict, after}

-- ---- the input's lines
-- those that a line feed ends, and what stands behind the last line feed
unfoldable pub ended_lines : List Bytes → List Bytes
ended_lines [] = []
ended_lines (l ∷ []) = []
ended_lines (l ∷ m ∷ ls) = l ∷ ended_lines (m ∷ ls)

unfoldable pub unended : List Bytes → Bytes
unended [] = []
unended (l ∷ []) = l
unended (l ∷ m ∷ ls) = unended (m ∷ ls)

-- the sheet stops at the first line TAPE, and the tape is what comes behind it
unfoldable pub is_tape : Bytes → Bool
is_tape l = is_text l (bytes "TAPE")

unfoldable pub sheet_lines : List Bytes → List Bytes
sheet_lines [] = []
sheet_lines (l ∷ ls) = cond (is_tape l) [] (l ∷ sheet_lines ls)

unfoldable pub tape_lines : List Bytes → Option (List Bytes)
tape_lines [] = None
tape_lines (l ∷ ls) = cond (is_tape l) (Some ls) (tape_lines ls)

-- ---- the sheet: a VIEW is not of the form, whatever its rules
unfoldable pub is_sheet : Heading → Bool
is_sheet SHEET = true
is_sheet VIEW = false

unfoldable pub sheet_only : Option (Heading × Store) → Option (Heading × Store)
sheet_only None = None
sheet_only (Some x) = when (is_sheet x.0) x

-- ---- the output
-- the room for one command's answer, longer than any answer
abbrev pub bench_room : ℕ
bench_room = 8192

unfoldable pub error_text : Reply → Bytes
error_text r = ended (line_of (bytes "E" ∷ dec_text (number r) ∷ []))

module _ (w : ℕ) where
  -- `A`, command number, reply number, count of answer lines; then the lines
  unfoldable pub command_text : ℕ → Verdict → Bytes
  command_text n v = ended (line_of (bytes "A" ∷ dec_text n ∷ dec_text (number v.reply) ∷ dec_text (length v.shown) ∷ [])) ++ answer_text w v.shown

  -- for each command its lines, and last the new sheet
  unfoldable pub run_text : ℕ → Store → List Line → Bytes
  run_text n s [] = sheet_text w SHEET s
  run_text n s (l ∷ ls) = command_text n (verdict w bench_room s l) ++ run_text (suc n) (after w bench_room s l) ls

  -- an unended last line is a command with no form
  unfoldable pub last_line : Bytes → List Line
  last_line [] = []
  last_line (b ∷ l) = nobodys ∷ []

  unfoldable pub ran_on : List Line → Reading → Bytes
  ran_on ls (refused r) = error_text r
  ran_on ls (taken h s) = run_text 0 s ls

  unfoldable pub sheet_reading : List Bytes → Reading
  sheet_reading ls = judged w (sheet_only (read_lines w ls))

  -- without a line TAPE all is the sheet's, and what is unended is not of the form
  unfoldable pub untaped : List Bytes → Bytes → Reading
  untaped ls [] = sheet_reading ls
  untaped ls (b ∷ l) = refused BadSheet

  unfoldable pub ran_lines : List Bytes → Option (List Bytes) → Bytes → Bytes
  ran_lines ls None rest = ran_on [] (untaped ls rest)
  ran_lines ls (Some tape) rest = ran_on (map (read_line w) tape ++ last_line rest) (sheet_reading (sheet_lines ls))

  unfoldable pub bench : Bytes → Bytes
  bench input =
      cond (leb (length input) 65536)
      (ran_lines (ended_lines (split 10 input)) (tape_lines (ended_lines (split 10 input))) (unended (split 10 input)))
      (error_text SheetLong)
