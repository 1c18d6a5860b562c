-- The view at a clearance. 01, the section of that name, sentence by sentence.
-- Assumes nothing.
use Rattle.std.specs.Prelude.{cond, [], ◌∷◌}
use Rattle.std.specs.Prelude.{Option, None, Some}
use Rattle.model.specs.declared.Class.{Class}
use Rattle.model.specs.declared.Field.{Field}
use Rattle.model.specs.Places.{Places, when, present, map_o, at, on_places, gather, emptied}
use Rattle.model.specs.Classes.{dominates}
use Rattle.model.specs.Values.{hide}
use Rattle.model.specs.Parts.{Row, Column, Table, Directory, Store}

-- a column stays where its group stays
unfoldable pub view_column : Places Class → Column → Option Column
view_column groups k = when (present (at k.group groups)) k

module _ (c : Class) where
  -- a group or a berth stays where its class is dominated
  unfoldable pub seen : Class → Option Class
  seen k = when (dominates c k) k

  unfoldable pub view_groups : Places Class → Places Class
  view_groups groups = on_places seen groups

  unfoldable pub view_columns : Places Class → Places Column → Places Column
  view_columns groups columns = on_places (view_column (view_groups groups)) columns

  -- rows keep only the fields of kept columns, each hidden where its class is not dominated
  unfoldable pub view_field : Option Column → Option Field → Option Field
  view_field None f = None
  view_field (Some k) f = map_o (hide c) f

  unfoldable pub view_fields : Places Column → Places Field → Places Field
  view_fields [] fs = []
  view_fields (k ∷ ks) [] = []
  view_fields (k ∷ ks) (f ∷ fs) = view_field k f ∷ view_fields ks fs

  unfoldable pub cut : Places Column → Row → Row
  cut columns r = record { exist = r.exist; fields = view_fields columns r.fields }

  -- a row stays where its existence class is dominated
  unfoldable pub view_row : Places Column → Row → Option Row
  view_row columns r = when (dominates c r.exist) (cut columns r)

  -- a table whose class is dominated
  unfoldable pub open_table : Table → Table
  open_table t =
      record {
        class = t.class;
        max = t.max;
        berths = on_places seen t.berths;
        groups = view_groups t.groups;
        columns = view_columns t.groups t.columns;
        rows = gather (view_row (view_columns t.groups t.columns)) t.rows;
      }

  -- one whose class is not: its class, the same class again as its maximum, and nothing more
  unfoldable pub shut_table : Table → Table
  shut_table t =
      record {
        class = t.class;
        max = t.class;
        berths = emptied t.berths;
        groups = emptied t.groups;
        columns = emptied t.columns;
        rows = [];
      }

  unfoldable pub view_table : Table → Table
  view_table t = cond (dominates c t.class) (open_table t) (shut_table t)

  -- the tables of a kept directory are kept if its class is dominated too; otherwise none are
  unfoldable pub keep_table : Table → Option Table
  keep_table t = Some (view_table t)

  unfoldable pub view_tables : Class → Places Table → Places Table
  view_tables k tables = cond (dominates c k) (on_places keep_table tables) (emptied tables)

  unfoldable pub cut_directory : Directory → Directory
  cut_directory d = record { exist = d.exist; class = d.class; tables = view_tables d.class d.tables }

  -- a directory is kept if its existence class is dominated
  unfoldable pub view_directory : Directory → Option Directory
  view_directory d = when (dominates c d.exist) (cut_directory d)

  unfoldable pub view : Store → Store
  view s = on_places view_directory s
