-- What the test for canonical form says of a table and of a directory, part by part.
-- Assumes nothing.
use mathlib.Core.Path.{◌≡◌}
use mathlib.Core.Bool.{◌||◌, true}
use Prim.Native.Nat.{◌≤◌}
use lib.Dec.{eqb}
use lib.ListN.{drop, length}
use borrow.Author.Tests.{eq-eqb, eqb-true, le-leb, leb-true}
use Rattle.model.specs.Places.{all, conj}
use Rattle.model.specs.Classes.{class_sound}
use Rattle.model.proofs.Tests.{and-fst, and-snd, both}
use Rattle.model.proofs.Every.{facts, of_facts}
use Rattle.store.specs.declared.Table.{Table}
use Rattle.store.specs.declared.Directory.{Directory}
use Rattle.store.specs.Packed.{rows_in}
use Rattle.store.specs.Canonical.{berth_tidy, column_tidy, directory_empty, directory_parts, directory_tidy, group_tidy, row_empty, row_tidy, table_empty, table_lengths, table_parts, table_tidy}

-- the lengths of a table's arrays
pub record LongTable (t : Table) : Type 0 where
  pub berths4 : length t.berths ≡ 4
  pub groups4 : length t.groups ≡ 4
  pub columns8 : length t.columns ≡ 8
  pub rows32 : length t.rows ≡ 32

pub record TidyTable (t : Table) : Type 0 where
  pub class : class_sound 8 t.class ≡ true
  pub max : class_sound 8 t.max ≡ true
  pub berths : all berth_tidy t.berths ≡ true
  pub groups : all group_tidy t.groups ≡ true
  pub columns : all column_tidy t.columns ≡ true
  pub count : t.count ≤ 32
  pub rows : all (row_tidy t.columns) (rows_in t) ≡ true
  pub rest : all row_empty (drop t.count t.rows) ≡ true
  pub absent : (t.there || conj (table_empty t)) ≡ true
  pub long : LongTable t

pub table_lengths_lem : (t : Table) → LongTable t → conj (table_lengths t) ≡ true
unfolding table_lengths
table_lengths_lem t l =
    of_facts (table_lengths t)
    (eq-eqb (length t.berths) 4 l.berths4, (eq-eqb (length t.groups) 4 l.groups4, (eq-eqb (length t.columns) 8 l.columns8, (eq-eqb (length t.rows) 32 l.rows32, tt))))

pub tidy_table : (t : Table) → table_tidy t ≡ true → TidyTable t
unfolding table_tidy table_parts table_lengths
tidy_table t e =
    let f = facts (table_parts t) (and-fst (conj (table_parts t)) (conj (table_lengths t)) e) in
    let g = facts (table_lengths t) (and-snd (conj (table_parts t)) (conj (table_lengths t)) e) in
    record {
      class = f.0;
      max = f.1.0;
      berths = f.1.1.0;
      groups = f.1.1.1.0;
      columns = f.1.1.1.1.0;
      count = leb-true t.count 32 f.1.1.1.1.1.0;
      rows = f.1.1.1.1.1.1.0;
      rest = f.1.1.1.1.1.1.1.0;
      absent = f.1.1.1.1.1.1.1.1.0;
      long =
          record {
            berths4 = eqb-true (length t.berths) 4 g.0;
            groups4 = eqb-true (length t.groups) 4 g.1.0;
            columns8 = eqb-true (length t.columns) 8 g.1.1.0;
            rows32 = eqb-true (length t.rows) 32 g.1.1.1.0;
          };
    }

pub table_tidy_lem : (t : Table) → TidyTable t → table_tidy t ≡ true
unfolding table_tidy table_parts
table_tidy_lem t y =
    both (conj (table_parts t)) (conj (table_lengths t))
    (of_facts (table_parts t)
    (y.class, (y.max, (y.berths, (y.groups, (y.columns, (le-leb t.count 32 y.count, (y.rows, (y.rest, (y.absent, tt))))))))))
    (table_lengths_lem t y.long)

pub record TidyDirectory (d : Directory) : Type 0 where
  pub exist : class_sound 8 d.exist ≡ true
  pub class : class_sound 8 d.class ≡ true
  pub tables : all table_tidy d.tables ≡ true
  pub absent : (d.there || conj (directory_empty d)) ≡ true
  pub tables2 : length d.tables ≡ 2

pub tidy_directory : (d : Directory) → directory_tidy d ≡ true → TidyDirectory d
unfolding directory_tidy directory_parts
tidy_directory d e =
    let f = facts (directory_parts d) (and-fst (conj (directory_parts d)) (eqb (length d.tables) 2) e) in
    record {
      exist = f.0;
      class = f.1.0;
      tables = f.1.1.0;
      absent = f.1.1.1.0;
      tables2 = eqb-true (length d.tables) 2 (and-snd (conj (directory_parts d)) (eqb (length d.tables) 2) e);
    }

pub directory_tidy_lem : (d : Directory) → TidyDirectory d → directory_tidy d ≡ true
unfolding directory_tidy directory_parts
directory_tidy_lem d y =
    both (conj (directory_parts d)) (eqb (length d.tables) 2)
    (of_facts (directory_parts d) (y.exist, (y.class, (y.tables, (y.absent, tt))))) (eq-eqb (length d.tables) 2 y.tables2)
