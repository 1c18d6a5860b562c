-- The lines of a sheet by the structs of the code: each is the line of the model's record, with its line feed.
-- Assumes nothing.
use Rattle.std.specs.Prelude.{cond, ℕ, Option, None, Some}
use mathlib.Core.List.{List, [], ◌∷◌, zip_with}
use Rattle.model.specs.declared.Class.{Class}
use Rattle.model.specs.declared.Field.{Field}
use Rattle.model.specs.Places.{filled}
use Rattle.model.specs.Numbers.{Bytes, dec_text}
use Rattle.model.specs.Texts.{class_text}
use Rattle.model.specs.Lines.{ended, flat, line_of}
use Rattle.model.specs.Records.{TablePart, berth, group, column, Part, inside, Record, row_record}
use Rattle.model.specs.Sheets as sheets
use Rattle.field.specs.Writing.{field_text}
use Rattle.store.specs.declared.Row.{Row}
use Rattle.store.specs.declared.Berth.{Berth}
use Rattle.store.specs.declared.Group.{Group}
use Rattle.store.specs.declared.Column.{Column}
use Rattle.store.specs.Packed.{column_of, unpacked_field, unpacked_row}
use Rattle.entries.specs.declared.Heading.{Heading}
use Rattle.entries.specs.declared.Heading.TheVariants.{Sheet, View}

-- what a heading of the code stands for
abbrev pub heading_of : Heading → sheets.Heading
heading_of Sheet = sheets.SHEET
heading_of View = sheets.VIEW

-- ---- lines
-- a record's line, with its line feed
abbrev pub line_text : Record → Bytes
line_text r = ended (sheets.record_line 8 r)

-- of a record in directory d
unfoldable pub line_in : ℕ → Part → Bytes
line_in d p = line_text (d, p)

-- of a record in table t of directory d
unfoldable pub table_line : ℕ → ℕ → TablePart → Bytes
table_line d t p = line_text (d, inside (t, p))

-- ---- berths, groups and columns at number n: nothing where there is none
unfoldable pub berth_text : ℕ → ℕ → ℕ → Berth → Bytes
berth_text d t n b = cond b.there (table_line d t (berth (n, b.class))) []

unfoldable pub group_text : ℕ → ℕ → ℕ → Group → Bytes
group_text d t n g = cond g.there (table_line d t (group (n, g.exist))) []

unfoldable pub column_text : ℕ → ℕ → ℕ → Column → Bytes
column_text d t n k = cond k.there (table_line d t (column (n, column_of k))) []

-- ---- rows
-- the fields of the columns that are there
unfoldable pub fields_text : List Column → List Field → Bytes
fields_text ks fs = flat (field_text 8) (filled (zip_with unpacked_field ks fs))

unfoldable pub row_text : ℕ → ℕ → List Column → Row → Bytes
row_text d t ks r = table_line d t (row_record (unpacked_row ks r))

-- ---- what the lines have in common
-- a line's letter, directory and table
unfoldable pub head_text : ℕ → ℕ → ℕ → Bytes
head_text b d t = line_of ((b ∷ []) ∷ dec_text d ∷ dec_text t ∷ [])

-- the line of a berth or a group
unfoldable pub part_text : ℕ → ℕ → ℕ → ℕ → Class → Bytes
part_text b d t n k = ended (line_of ((b ∷ []) ∷ dec_text d ∷ dec_text t ∷ dec_text n ∷ class_text 8 k ∷ []))

-- at number n, by its letter: nothing where there is none
unfoldable pub part_if : ℕ → ℕ → ℕ → ℕ → Option Class → Bytes
part_if b d t n None = []
part_if b d t n (Some k) = part_text b d t n k
