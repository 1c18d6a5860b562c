-- What a clearance sees of each part of the structs: the definition's step, between unpacking and packing. Rows and fields are said of
-- the structs, since a row is unpacked by the columns of its table; that it is the same stands in proofs/RowLaws.antt.
-- Assumes nothing.
use Rattle.std.specs.Prelude.{Bool, cond, length}
use mathlib.Core.List.{List, [], map, zip_with}
use Rattle.std.specs.Prelude.{Some}
use Rattle.model.specs.declared.Class.{Class}
use Rattle.model.specs.declared.Field.{Field}
use Rattle.model.specs.Places.{and_then, nones}
use Rattle.model.specs.Classes.{dominates}
use Rattle.model.specs.Values.{hide}
use Rattle.model.specs.View.{seen, view_column, keep_table, view_tables, view_directory}
use Rattle.lists.specs.Pad.{pad}
use Rattle.lists.specs.Folds.{kept_in}
use Rattle.store.specs.declared.Row.{Row}
use Rattle.store.specs.declared.Berth.{Berth}
use Rattle.store.specs.declared.Group.{Group}
use Rattle.store.specs.declared.Column.{Column}
use Rattle.store.specs.declared.Table.{Table}
use Rattle.store.specs.declared.Directory.{Directory}
use Rattle.store.specs.Packed.{no_field, no_row, packed_berth, packed_group, packed_column, packed_table, packed_directory, unpacked_berth, unpacked_group, unpacked_column, unpacked_table, unpacked_directory}

-- ---- berths, groups, columns
unfoldable pub seen_berth : Class → Berth → Berth
seen_berth c b = packed_berth (and_then (unpacked_berth b) (seen c))

unfoldable pub seen_group : Class → Group → Group
seen_group c g = packed_group (and_then (unpacked_group g) (seen c))

-- under the groups that are kept
unfoldable pub seen_column : List Group → Column → Column
seen_column gs k = packed_column (and_then (unpacked_column k) (view_column (map unpacked_group gs)))

-- ---- rows, under the columns that are kept
unfoldable pub show_field : Class → Column → Field → Field
show_field c k f = cond k.there (hide c f) no_field

unfoldable pub seen_row : Class → List Column → Row → Row
seen_row c ks r = record { exist = r.exist; fields = zip_with (show_field c) ks r.fields }

abbrev pub sees_row : Class → Row → Bool
sees_row c r = dominates c r.exist

abbrev pub seen_rows : Class → List Column → List Row → List Row
seen_rows c ks l = kept_in (sees_row c) (seen_row c ks) l

-- a table that has these rows in place of its own
abbrev pub with_rows : Table → List Row → Table
with_rows t l =
    record {
      there = t.there;
      class = t.class;
      max = t.max;
      berths = t.berths;
      groups = t.groups;
      columns = t.columns;
      count = length l;
      rows = pad no_row 32 l;
    }

-- ---- tables, directories
-- what is left of a table whose class is not dominated
unfoldable pub shut_at : Class → Table
shut_at k = packed_table (Some (record { class = k; max = k; berths = nones 4; groups = nones 4; columns = nones 8; rows = [] }))

unfoldable pub seen_table : Class → Table → Table
seen_table c t = packed_table (and_then (unpacked_table t) (keep_table c))

-- the tables of a directory of class k
unfoldable pub seen_tables : Class → Class → List Table → List Table
seen_tables c k l = map packed_table (view_tables c k (map unpacked_table l))

unfoldable pub seen_directory : Class → Directory → Directory
seen_directory c d = packed_directory (and_then (unpacked_directory d) (view_directory c))
