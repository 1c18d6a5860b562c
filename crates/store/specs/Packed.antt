-- How the structs of the code stand for a store. An absent part is one constant, and so is a row past the count.
-- Assumes nothing.
use Rattle.std.specs.Prelude.{true, false, length, replicate, take}
use mathlib.Core.List.{List, map, zip_with}
use Rattle.std.specs.Prelude.{Option, None, Some}
use Rattle.model.specs.declared.Class.{Class}
use Rattle.model.specs.declared.Value.TheVariants.{Blank}
use Rattle.model.specs.declared.Kind.TheVariants.{Counts}
use Rattle.model.specs.declared.Field.{Field}
use Rattle.model.specs.Places.{when}
use Rattle.model.specs.Parts as model
use Rattle.lists.specs.Pad.{pad}
use Rattle.store.specs.declared.Row.{Row}
use Rattle.store.specs.declared.Berth.{Berth}
use Rattle.store.specs.declared.Group.{Group}
use Rattle.store.specs.declared.Column.{Column}
use Rattle.store.specs.declared.Table.{Table}
use Rattle.store.specs.declared.Directory.{Directory}
use Rattle.store.specs.declared.Store.{Store}

-- ---- what stands where nothing is
abbrev pub bottom : Class
bottom = record { level = 0; marks = 0 }

abbrev pub no_field : Field
no_field = record { class = bottom; value = Blank }

abbrev pub no_row : Row
no_row = record { exist = bottom; fields = replicate 8 no_field }

abbrev pub no_berth : Berth
no_berth = record { there = false; class = bottom }

abbrev pub no_group : Group
no_group = record { there = false; exist = bottom }

abbrev pub no_column : Column
no_column = record { there = false; group = 0; kind = Counts; default = no_field }

abbrev pub no_table : Table
no_table =
    record {
      there = false;
      class = bottom;
      max = bottom;
      berths = replicate 4 no_berth;
      groups = replicate 4 no_group;
      columns = replicate 8 no_column;
      count = 0;
      rows = replicate 32 no_row;
    }

abbrev pub no_directory : Directory
no_directory = record { there = false; exist = bottom; class = bottom; tables = replicate 2 no_table }

-- ---- from the model
unfoldable pub packed_field : Option Field → Field
packed_field None = no_field
packed_field (Some f) = f

unfoldable pub packed_row : model.Row → Row
packed_row r = record { exist = r.exist; fields = map packed_field r.fields }

unfoldable pub packed_berth : Option Class → Berth
packed_berth None = no_berth
packed_berth (Some k) = record { there = true; class = k }

unfoldable pub packed_group : Option Class → Group
packed_group None = no_group
packed_group (Some k) = record { there = true; exist = k }

unfoldable pub packed_column : Option model.Column → Column
packed_column None = no_column
packed_column (Some k) = record { there = true; group = k.group; kind = k.kind; default = k.default }

unfoldable pub packed_table : Option model.Table → Table
packed_table None = no_table
packed_table (Some t) =
    record {
      there = true;
      class = t.class;
      max = t.max;
      berths = map packed_berth t.berths;
      groups = map packed_group t.groups;
      columns = map packed_column t.columns;
      count = length t.rows;
      rows = pad no_row 32 (map packed_row t.rows);
    }

unfoldable pub packed_directory : Option model.Directory → Directory
packed_directory None = no_directory
packed_directory (Some d) = record { there = true; exist = d.exist; class = d.class; tables = map packed_table d.tables }

unfoldable pub packed : model.Store → Store
packed s = record { dirs = map packed_directory s }

-- ---- to the model
-- a field where its column is
unfoldable pub unpacked_field : Column → Field → Option Field
unpacked_field k f = when k.there f

unfoldable pub unpacked_row : List Column → Row → model.Row
unpacked_row ks r = record { exist = r.exist; fields = zip_with unpacked_field ks r.fields }

unfoldable pub unpacked_berth : Berth → Option Class
unpacked_berth b = when b.there b.class

unfoldable pub unpacked_group : Group → Option Class
unpacked_group g = when g.there g.exist

unfoldable pub column_of : Column → model.Column
column_of k = record { group = k.group; kind = k.kind; default = k.default }

unfoldable pub unpacked_column : Column → Option model.Column
unpacked_column k = when k.there (column_of k)

-- the rows that are there: as many as the count says
unfoldable pub rows_in : Table → List Row
rows_in t = take t.count t.rows

unfoldable pub table_of : Table → model.Table
table_of t =
    record {
      class = t.class;
      max = t.max;
      berths = map unpacked_berth t.berths;
      groups = map unpacked_group t.groups;
      columns = map unpacked_column t.columns;
      rows = map (unpacked_row t.columns) (rows_in t);
    }

unfoldable pub unpacked_table : Table → Option model.Table
unpacked_table t = when t.there (table_of t)

unfoldable pub directory_of : Directory → model.Directory
directory_of d = record { exist = d.exist; class = d.class; tables = map unpacked_table d.tables }

unfoldable pub unpacked_directory : Directory → Option model.Directory
unpacked_directory d = when d.there (directory_of d)

unfoldable pub unpacked : Store → model.Store
unpacked s = map unpacked_directory s.dirs
