-- The tables, directories and the store that a clearance sees.
-- Assumes nothing.
use mathlib.Core.Path.{◌∙◌, ◌≡◌, ap, sym}
use mathlib.Core.Bool.{false, true}
use mathlib.Core.List.{List, [], map}
use Rattle.std.specs.Prelude.{Some}
use lib.ListN.{length, length-map, replicate}
use Rattle.model.specs.declared.Class.{Class}
use Rattle.model.specs.Places.{Places, gather, on_places}
use Rattle.model.specs.Classes.{dominates}
use Rattle.model.specs.Parts as model
use Rattle.model.specs.View.{keep_table, open_table, seen, shut_table, view, view_column, view_columns, view_directory, view_groups, view_row, view_tables}
use Rattle.lists.specs.Pad.{pad}
use Rattle.store.specs.declared.Group.{Group}
use Rattle.store.specs.declared.Column.{Column}
use Rattle.store.specs.declared.Table.{Table}
use Rattle.store.specs.declared.Store.{Store}
use Rattle.store.specs.Packed.{no_row, no_table, packed, packed_berth, packed_column, packed_directory, packed_group, packed_row, packed_table, rows_in, table_of, unpacked, unpacked_berth, unpacked_column, unpacked_directory, unpacked_group, unpacked_row, unpacked_table}
use Rattle.view.specs.Seen.{seen_berth, seen_column, seen_directory, seen_group, seen_rows, seen_table, seen_tables, shut_at}
use Rattle.view.proofs.Through.{emptied-nones, through}
use Rattle.view.proofs.PartLaws.{groups-seen}
use Rattle.view.proofs.RowLaws.{kept, rows_seen}

-- ---- a table whose class is dominated
-- its groups and columns that are kept
abbrev pub groups_in : Class → Table → List Group
groups_in c t = map (seen_group c) t.groups

abbrev pub columns_in : Class → Table → List Column
columns_in c t = map (seen_column (groups_in c t)) t.columns

pub table_open : (c : Class) (t : Table)
    → record {
      there = true;
      class = t.class;
      max = t.max;
      berths = map (seen_berth c) t.berths;
      groups = groups_in c t;
      columns = columns_in c t;
      count = length (seen_rows c (columns_in c t) (rows_in t));
      rows = pad no_row 32 (seen_rows c (columns_in c t) (rows_in t));
    }
    ≡ packed_table (Some (open_table c (table_of t)))
unfolding packed_table open_table table_of seen_berth seen_group seen_column view_groups view_columns kept
table_open c t =
    sym
    (λ i. record {
      there = true;
      class = t.class;
      max = t.max;
      berths = through unpacked_berth packed_berth (seen c) t.berths i;
      groups = through unpacked_group packed_group (seen c) t.groups i;
      columns = columns i;
      count = (sym (length-map rs packed_row) ∙ ap length made) i;
      rows = pad no_row 32 (made i);
    })
  where
    gs : Places Class
    gs = view_groups c (map unpacked_group t.groups)

    rs : List model.Row
    rs = gather (view_row c (on_places (view_column gs) (map unpacked_column t.columns))) (map (unpacked_row t.columns) (rows_in t))

    keeps : map (kept gs) t.columns ≡ columns_in c t
    keeps = ap (λ (g : Places Class). map (kept g) t.columns) (sym (groups-seen c t.groups))

    columns : map packed_column (on_places (view_column gs) (map unpacked_column t.columns)) ≡ columns_in c t
    columns = through unpacked_column packed_column (view_column gs) t.columns ∙ keeps

    made : map packed_row rs ≡ seen_rows c (columns_in c t) (rows_in t)
    made = rows_seen c gs t.columns (rows_in t) ∙ ap (λ (ks : List Column). seen_rows c ks (rows_in t)) keeps

-- ---- one whose class is not
pub table_shut : (c : Class) (t : Table) → length t.berths ≡ 4 → length t.groups ≡ 4 → length t.columns ≡ 8
    → shut_at t.class ≡ packed_table (Some (shut_table c (table_of t)))
unfolding shut_table table_of shut_at
table_shut c t b g k =
    sym
    (λ i. packed_table (Some (record {
      class = t.class;
      max = t.class;
      berths = emptied-nones unpacked_berth 4 t.berths b i;
      groups = emptied-nones unpacked_group 4 t.groups g i;
      columns = emptied-nones unpacked_column 8 t.columns k i;
      rows = [];
    })))

-- ---- the tables of a directory
pub tables_none : (c k : Class) (l : List Table) → length l ≡ 2 → dominates c k ≡ false → replicate 2 no_table ≡ seen_tables c k l
unfolding seen_tables view_tables packed_table
tables_none c k l h q = sym (rw q (ap (map packed_table) (emptied-nones unpacked_table 2 l h)))

pub tables_seen : (c k : Class) (l : List Table) → dominates c k ≡ true → map (seen_table c) l ≡ seen_tables c k l
unfolding seen_tables view_tables seen_table
tables_seen c k l q = sym (rw q (through unpacked_table packed_table (keep_table c) l))

-- ---- the store
pub store_seen : (c : Class) (s : Store) → record { dirs = map (seen_directory c) s.dirs } ≡ packed (view c (unpacked s))
unfolding packed unpacked view seen_directory
store_seen c s = λ i. record { dirs = sym (through unpacked_directory packed_directory (view_directory c) s.dirs) i }
