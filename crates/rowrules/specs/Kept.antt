-- The rules of the structs' rows and of their fields, in the model's words.
-- Assumes nothing.
use Rattle.std.specs.Prelude.{Bool, not, ◌||◌, List, map, leb}
use Rattle.model.specs.declared.Class.{Class}
use Rattle.model.specs.declared.Field.{Field}
use Rattle.model.specs.Classes.{same}
use Rattle.model.specs.Rules.{field_ok, row_ok, field_plain, row_plain}
use Rattle.lists.specs.Folds.{count_in}
use Rattle.store.specs.declared.Row.{Row}
use Rattle.store.specs.declared.Berth.{Berth}
use Rattle.store.specs.declared.Column.{Column}
use Rattle.store.specs.Packed.{unpacked_field, unpacked_row, unpacked_berth, unpacked_column}

-- ---- fields and rows
-- a field by its column
abbrev pub field_kept : Column → Field → Bool
field_kept k f = field_ok (unpacked_column k) (unpacked_field k f)

-- a row by the berths and the columns of its table
abbrev pub row_kept : List Berth → List Column → Row → Bool
row_kept bs ks r = row_ok (map unpacked_berth bs) (map unpacked_column ks) (unpacked_row ks r)

-- ---- how many rows a berth has
-- a row is of the berth of a class
abbrev pub of_berth : Class → Row → Bool
of_berth c r = same r.exist c

-- the rows of a berth's class are at most 8
abbrev pub room_in : List Row → Class → Bool
room_in rs c = leb (count_in (of_berth c) rs) 8

-- and so of a berth that is there
abbrev pub room_kept : List Row → Berth → Bool
room_kept rs b = not b.there || room_in rs b.class

-- ---- no field is hidden
-- a field is not, where its column is there
abbrev pub field_shown : Column → Field → Bool
field_shown k f = not k.there || field_plain f

-- none of a row is, by the columns of its table
abbrev pub row_shown : List Column → Row → Bool
row_shown ks r = row_plain (unpacked_row ks r)
