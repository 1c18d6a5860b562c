-- The clerk's cards P1 to P12. 01, the section of that name: the sheets and lines as quoted text, and what must come of them.
-- Assumes nothing.
use Rattle.std.specs.Prelude.{Bool, false, List, [], ◌++◌, ◌∷◌, map, ℕ, take}
use Rattle.model.specs.declared.Class.{Class}
use Rattle.model.specs.Places.{nones}
use Rattle.model.specs.Classes.{dominates}
use Rattle.model.specs.Parts.{Store}
use Rattle.model.specs.View.{view}
use Rattle.model.specs.Replies.{number}
use Rattle.model.specs.Numbers.{Bytes, bytes}
use Rattle.model.specs.Sheets.{Reading, SHEET, VIEW, reading, refused, sheet_text, taken}
use Rattle.model.specs.Verdicts.{Offer}
use Rattle.model.specs.Tapes.{Answered, final, log}

-- ---- the example's sheet: the nine lines that stay, and its rows
abbrev pub frame : Bytes
frame =
    bytes "SHEET\n"
    ++ (bytes "D\t0\t000000000\t000000000\n"
    ++ (bytes "T\t0\t0\t000000000\t300000003\n"
    ++ (bytes "B\t0\t0\t0\t100000001\n"
    ++ (bytes "B\t0\t0\t1\t100000002\n"
    ++ (bytes "G\t0\t0\t0\t000000000\n"
    ++ (bytes "G\t0\t0\t1\t200000003\n"
    ++ (bytes "C\t0\t0\t0\t0\tN\t000000000\t-\n"
    ++ bytes "C\t0\t0\t1\t1\tF\t200000003\t-\n")))))))

abbrev pub example : Bytes
example = frame ++ (bytes "R\t0\t0\t100000002\t100000002\tN7\t200000003\t-\n" ++ bytes "R\t0\t0\t100000001\t100000001\tN4\t200000003\t-\n")

abbrev pub tape : List Bytes
tape =
    bytes "100000001\tS\t0\t0"
    ∷ bytes "100000001\tX\t0\t0\t1"
    ∷ bytes "100000001\tI\t0\t0\t0\t200000003\tN9"
    ∷ bytes "100000001\tS\t0\t0\t0\tN9"
    ∷ bytes "200000003\tU\t0\t0\t0\t0\t=\tN8"
    ∷ bytes "200000003\tU\t0\t0\t1\t1\t=\tF3F800000"
    ∷ []

-- seven rows in berth 0
abbrev pub seven : Bytes
seven = frame ++ (line ++ (line ++ (line ++ (line ++ (line ++ (line ++ line))))))
  where
    line : Bytes
    line = bytes "R\t0\t0\t100000001\t100000001\tN4\t200000003\t-\n"

-- ---- what a card asks for
pub data Card : Type 0 where
  answers : ℕ → Bytes → Card  -- a reply's number, and the answer
  stands : Bytes → Card  -- the sheet, or the view, that is there
  dominating : Bool → Card

-- the store of a sheet
unfoldable pub store_of : Reading → Store
store_of (refused r) = nones 4
store_of (taken h s) = s

unfoldable pub stored : Bytes → Store
stored bs = store_of (reading 8 bs)

-- each line with a room of its own
unfoldable pub offered : Bytes → Offer
offered l = record { line = l; room = bytes "................................................................" }

unfoldable pub card_of : Answered → Card
card_of x = answers (number x.reply) (take x.length x.room)

unfoldable pub told : Bytes → List Bytes → List Card
told sheet ls = map card_of (log 8 (stored sheet) (map offered ls))

unfoldable pub leaves : Bytes → List Bytes → Card
leaves sheet ls = stands (sheet_text 8 SHEET (final 8 (stored sheet) (map offered ls)))

unfoldable pub view_at : Class → Bytes → Card
view_at c sheet = stands (sheet_text 8 VIEW (view c (stored sheet)))

abbrev pub maker1 : Class
maker1 = record { level = 1; marks = 1 }

abbrev pub maker2 : Class
maker2 = record { level = 1; marks = 2 }

abbrev pub nobody : Class
nobody = record { level = 0; marks = 0 }

-- ---- what comes, and what must come
unfoldable pub got : List Card
got =
    -- P1 to P6
    told example tape
    -- P7, P8
    ++ (view_at maker1 example ∷ view_at nobody example ∷ []
    -- P9
    ++ (told (text_of (leaves example tape)) (bytes "100000001\tU\t0\t0\t1\t0\t100000001\t=" ∷ [])
    -- P10
    ++ (told seven (insertion ∷ insertion ∷ bytes "100000001\tX\t0\t0\t3" ∷ insertion ∷ [])
    -- P11
    ++ (dominating (dominates maker1 maker2) ∷ dominating (dominates maker2 maker1) ∷ []
    -- P12
    ++ (told example (bytes "100000001\tX\t0\t0" ∷ []) ++ (leaves example (bytes "100000001\tX\t0\t0" ∷ []) ∷ []))))))
  where
    insertion : Bytes
    insertion = bytes "100000001\tI\t0\t0\t0\t100000001\tN4"

    text_of : Card → Bytes
    text_of (answers n b) = []
    text_of (stands b) = b
    text_of (dominating b) = []

unfoldable pub want : List Card
want =
    -- P1 to P6
    answers 0 (bytes "R\t0\t100000001\t100000001\tN4\n")
    ∷ answers 7 []
    ∷ answers 0 []
    ∷ answers 1 []
    ∷ answers 12 []
    ∷ answers 0 []
    -- P7: directory, table, berth 0, group 0, column 0, and one row
    ∷ stands (bytes "VIEW\nD\t0\t000000000\t000000000\nT\t0\t0\t000000000\t300000003\nB\t0\t0\t0\t100000001\nG\t0\t0\t0\t000000000\nC\t0\t0\t0\t0\tN\t000000000\t-\nR\t0\t0\t100000001\t100000001\tN4\n")
    -- P8: no berth, no row, one group and one column
    ∷ stands (bytes "VIEW\nD\t0\t000000000\t000000000\nT\t0\t0\t000000000\t300000003\nG\t0\t0\t0\t000000000\nC\t0\t0\t0\t0\tN\t000000000\t-\n")
    -- P9
    ∷ answers 13 []
    -- P10: the eighth row, the ninth, a delete, and once more
    ∷ answers 0 []
    ∷ answers 11 []
    ∷ answers 0 []
    ∷ answers 0 []
    -- P11: neither dominates the other
    ∷ dominating false
    ∷ dominating false
    -- P12: nothing changed
    ∷ answers 0 []
    ∷ stands example
    ∷ []
