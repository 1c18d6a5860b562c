-- The lines of records, and sheets. 01, "Sheets and tapes": the six kinds of line, the heading, and reading with 22, 20 and 21, in that
-- order over the whole sheet.
-- Assumes nothing.
use Rattle.std.specs.Prelude.{Bool, true, cond, ◌&&◌, List, [], ◌∷◌, ◌++◌, map, ℕ, leb, length}
use Rattle.std.specs.Prelude.{Option, None, Some}
use Prim.Native.Char.{code}
use Rattle.model.specs.declared.Class.{Class}
use Rattle.model.specs.declared.Kind.{Kind}
use Rattle.model.specs.declared.Value.{Value}
use Rattle.model.specs.declared.Field.{Field}
use Rattle.model.specs.declared.Reply.{Reply}
use Rattle.model.specs.declared.Reply.TheVariants.{SheetLong, BadSheet, RuleBroken}
use Rattle.model.specs.Places.{map_o, nones}
use Rattle.model.specs.Parts.{Column, Store}
use Rattle.model.specs.Rules.{rules, plain}
use Rattle.model.specs.Numbers.{Bytes, bytes}
use Rattle.model.specs.Lines.{ended, unlines, fields_of, line_of, lines, is_text}
use Rattle.model.specs.Forms.{◌>>=◌, Fields, ◌then◌, only}
use Rattle.model.specs.Texts.{number, read_letter, kind, class, value, fields}
use Rattle.model.specs.Records.{TablePart, table, berth, group, column, row, Part, directory, inside, Record, records, place}

-- ---- the line of a record
pub data Letter : Type 0 where
  D T B G C R : Letter

unfoldable pub letter_byte : Letter → ℕ
letter_byte D = code "D"
letter_byte T = code "T"
letter_byte B = code "B"
letter_byte G = code "G"
letter_byte C = code "C"
letter_byte R = code "R"

abbrev pub letters : List (ℕ × Letter)
letters = (code "D", D) ∷ (code "T", T) ∷ (code "B", B) ∷ (code "G", G) ∷ (code "C", C) ∷ (code "R", R) ∷ []

-- its letter first
abbrev pub led : Letter → List Bytes → List Bytes
led x l = (letter_byte x ∷ []) ∷ l

-- a column by its fields
abbrev pub column_of : ℕ × (Kind × (Class × Value)) → Column
column_of x = record { group = x.0; kind = x.1.0; default = record { class = x.1.1.0; value = x.1.1.1 } }

abbrev pub of_column : Column → ℕ × (Kind × (Class × Value))
of_column k = (k.group, (k.kind, (k.default.class, k.default.value)))

module _ (w : ℕ) where
  -- what stands behind each letter: directory, table, number, and then what the part carries
  abbrev pub line_d : Fields (ℕ × (Class × Class))
  line_d = number 3 then class w then only (class w)

  abbrev pub line_t : Fields (ℕ × (ℕ × (Class × Class)))
  line_t = number 3 then number 1 then class w then only (class w)

  -- berths and groups
  abbrev pub line_b : Fields (ℕ × (ℕ × (ℕ × Class)))
  line_b = number 3 then number 1 then number 3 then only (class w)

  abbrev pub line_c : Fields (ℕ × (ℕ × (ℕ × (ℕ × (Kind × (Class × Value))))))
  line_c = number 3 then number 1 then number 7 then number 3 then kind then class w then only (value w)

  abbrev pub line_r : Fields (ℕ × (ℕ × (Class × List Field)))
  line_r = number 3 then number 1 then class w then fields w

  -- the fields of a record
  unfoldable pub table_fields : ℕ → ℕ → TablePart → List Bytes
  table_fields d t (table k m) = led T (line_t.write (d, (t, (k, m))))
  table_fields d t (berth x) = led B (line_b.write (d, (t, x)))
  table_fields d t (group x) = led G (line_b.write (d, (t, x)))
  table_fields d t (column x) = led C (line_c.write (d, (t, (x.0, of_column x.1))))
  table_fields d t (row k fs) = led R (line_r.write (d, (t, (k, fs))))

  unfoldable pub part_fields : ℕ → Part → List Bytes
  part_fields d (directory x k) = led D (line_d.write (d, (x, k)))
  part_fields d (inside p) = table_fields d p.0 p.1

  unfoldable pub record_fields : Record → List Bytes
  record_fields r = part_fields r.0 r.1

  -- the record of these fields
  unfoldable pub read_by : Letter → List Bytes → Option Record
  read_by D l = map_o (λ (x : ℕ × (Class × Class)). (x.0, directory x.1.0 x.1.1)) (line_d.parse l)
  read_by T l = map_o (λ (x : ℕ × (ℕ × (Class × Class))). (x.0, inside (x.1.0, table x.1.1.0 x.1.1.1))) (line_t.parse l)
  read_by B l = map_o (λ (x : ℕ × (ℕ × (ℕ × Class))). (x.0, inside (x.1.0, berth x.1.1))) (line_b.parse l)
  read_by G l = map_o (λ (x : ℕ × (ℕ × (ℕ × Class))). (x.0, inside (x.1.0, group x.1.1))) (line_b.parse l)
  read_by C l = map_o (λ (x : ℕ × (ℕ × (ℕ × (ℕ × (Kind × (Class × Value)))))). (x.0, inside (x.1.0, column (x.1.1.0, column_of x.1.1.1)))) (line_c.parse l)
  read_by R l = map_o (λ (x : ℕ × (ℕ × (Class × List Field))). (x.0, inside (x.1.0, row x.1.1.0 x.1.1.1))) (line_r.parse l)

  unfoldable pub read_record : List Bytes → Option Record
  read_record [] = None
  read_record (a ∷ l) = read_letter letters a >>= λ (x : Letter). read_by x l

  -- ---- a store as text, and read from the lines of one: line by line, each record placed before the next is read
  unfoldable pub record_line : Record → Bytes
  record_line r = line_of (record_fields r)

  unfoldable pub store_text : Store → Bytes
  store_text s = unlines (map record_line (records s))

  unfoldable pub read_on : List Bytes → Store → Option Store
  read_on [] s = Some s
  read_on (l ∷ ls) s = do
    r ← read_record (fields_of l)
    x ← place r s
    read_on ls x

  unfoldable pub read_store : List Bytes → Option Store
  read_store ls = read_on ls (nones 4)

-- ---- a sheet: its heading, then a store
pub data Heading : Type 0 where
  SHEET VIEW : Heading

unfoldable pub heading_text : Heading → Bytes
heading_text SHEET = bytes "SHEET"
heading_text VIEW = bytes "VIEW"

unfoldable pub read_heading : Bytes → Option Heading
read_heading l = cond (is_text l (bytes "SHEET")) (Some SHEET) (cond (is_text l (bytes "VIEW")) (Some VIEW) None)

-- under SHEET no value is hidden
unfoldable pub shows : Heading → Store → Bool
shows SHEET s = plain s
shows VIEW s = true

-- what reading says: a refusal, or the heading and the store
pub data Reading : Type 0 where
  refused : Reply → Reading
  taken : Heading → Store → Reading

module _ (w : ℕ) where
  unfoldable pub sheet_text : Heading → Store → Bytes
  sheet_text h s = ended (heading_text h) ++ store_text w s

  -- the store keeps the rules, and the heading lets it be shown: 21 where it is not so
  unfoldable pub may_stand : Heading → Store → Bool
  may_stand h s = rules w s && shows h s

  unfoldable pub read_lines : List Bytes → Option (Heading × Store)
  read_lines [] = None
  read_lines (l ∷ ls) = do
    h ← read_heading l
    s ← read_store w ls
    Some (h, s)

  -- the heading and the store of a sheet that is of the form
  unfoldable pub read_sheet : Bytes → Option (Heading × Store)
  read_sheet bs = lines bs >>= read_lines

  -- 20 where the form is not kept, then 21
  unfoldable pub judged : Option (Heading × Store) → Reading
  judged None = refused BadSheet
  judged (Some x) = cond (may_stand x.0 x.1) (taken x.0 x.1) (refused RuleBroken)

  -- 22 before both
  unfoldable pub reading : Bytes → Reading
  reading bs = cond (leb (length bs) 65536) (judged (read_sheet bs)) (refused SheetLong)
