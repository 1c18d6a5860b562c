-- A berth, a group, a column or a row set in the last table of a store of structs is the part placed in the model's store.
-- Assumes nothing.
use mathlib.Core.Path.{◌≡◌, refl}
use Rattle.std.specs.Prelude.{List, ℕ, ◌<◌, length, Some}
use Rattle.model.specs.declared.Class.{Class}
use Rattle.model.specs.declared.Field.{Field}
use Rattle.model.specs.Places.{at, map_o}
use Rattle.model.specs.Parts as model
use Rattle.model.specs.Records.{berth, column, group, inside, place, place_table, row}
use Rattle.store.specs.Packed.{packed, packed_column}
use Rattle.placing.specs.Rows.{row_set}
use Rattle.placing.specs.Stores.{in_table}
use Rattle.placing.specs.Tables.{berth_set, column_set, group_set}
use Rattle.placing.proofs.PlaceLaws.{part_placed}
use Rattle.placing.proofs.SpreadLaws.{row_placed}
use Rattle.placing.proofs.TableLaws.{berth_placed, column_placed, group_placed}

-- d, t: the numbers of a directory and of a table in it; s has its four directories, and that one its two tables
module _ (d t : ℕ) (s : model.Store) (e : length s ≡ 4) (w : (x : model.Directory) → at d s ≡ Some x → length x.tables ≡ 2) where
  pub berth_in_store : (n : ℕ) (k : Class) → ((u : model.Table) → model.table_at d t s ≡ Some u → length u.berths ≡ 4)
      → map_o packed (place (d, inside (t, berth (n, k))) s) ≡ in_table d t (berth_set n k) (packed s)
  unfolding place_table
  berth_in_store n k h = part_placed d t (berth (n, k)) (berth_set n k) s e refl w (λ u i. berth_placed n k u (h u i))

  pub group_in_store : (n : ℕ) (k : Class) → ((u : model.Table) → model.table_at d t s ≡ Some u → length u.groups ≡ 4)
      → map_o packed (place (d, inside (t, group (n, k))) s) ≡ in_table d t (group_set n k) (packed s)
  unfolding place_table
  group_in_store n k h = part_placed d t (group (n, k)) (group_set n k) s e refl w (λ u i. group_placed n k u (h u i))

  pub column_in_store : (n : ℕ) (c : model.Column) → ((u : model.Table) → model.table_at d t s ≡ Some u → length u.columns ≡ 8)
      → map_o packed (place (d, inside (t, column (n, c))) s) ≡ in_table d t (column_set n (packed_column (Some c))) (packed s)
  unfolding place_table
  column_in_store n c h = part_placed d t (column (n, c)) (column_set n (packed_column (Some c))) s e refl w (λ u i. column_placed n c u (h u i))

  pub row_in_store : (k : Class) (fs : List Field) → ((u : model.Table) → model.table_at d t s ≡ Some u → length u.rows < 32)
      → map_o packed (place (d, inside (t, row k fs)) s) ≡ in_table d t (row_set k fs) (packed s)
  unfolding place_table
  row_in_store k fs h = part_placed d t (row k fs) (row_set k fs) s e refl w (λ u i. row_placed k fs u (h u i))
