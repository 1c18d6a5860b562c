-- What a store of the model is packed into stands for that store, if it keeps the rules: one field for each column.
-- Assumes nothing.
use mathlib.Core.Path.{◌∙◌, ◌≡◌, ap, ap₂, refl}
use mathlib.Core.Bool.{false≢true, true}
use mathlib.Core.List.{List, [], ◌∷◌, map, zip_with}
use Rattle.std.specs.Prelude.{Option, None, Some}
use Prim.Native.Nat.{◌-◌, ℕ}
use lib.Dec.{eqb}
use lib.ListN.{length, length-map, replicate, take}
use lib.Seq.{take_at}
use Rattle.model.specs.declared.Class.{Class}
use Rattle.model.specs.declared.Field.{Field}
use Rattle.model.specs.Places.{Places, all_in, any, sure}
use Rattle.model.specs.Classes.{same}
use Rattle.model.specs.Parts as model
use Rattle.model.specs.Rules.{directory_ok, field_ok, fields_ok, row_ok, ruled, table_ok}
use Rattle.model.proofs.Tests.{and-fst, and-snd}
use Rattle.model.proofs.RuleLaws.{table-rules}
use Rattle.lists.specs.Pad.{pad}
use Rattle.store.specs.Packed.{column_of, directory_of, no_row, packed, packed_berth, packed_column, packed_directory, packed_field, packed_group, packed_row, packed_table, rows_in, table_of, unpacked, unpacked_berth, unpacked_column, unpacked_directory, unpacked_field, unpacked_group, unpacked_row, unpacked_table}
use Rattle.store.proofs.PartLaws.{all_back, in_back, map_back}

-- ---- berths, groups, columns
pub berth-forth : (o : Option Class) → unpacked_berth (packed_berth o) ≡ o
unfolding packed_berth unpacked_berth
berth-forth None = refl
berth-forth (Some k) = refl

pub group-forth : (o : Option Class) → unpacked_group (packed_group o) ≡ o
unfolding packed_group unpacked_group
group-forth None = refl
group-forth (Some k) = refl

pub column-forth : (o : Option model.Column) → unpacked_column (packed_column o) ≡ o
unfolding packed_column unpacked_column column_of
column-forth None = refl
column-forth (Some k) = refl

-- ---- rows
field-forth : (k : Option model.Column) (f : Option Field) → field_ok k f ≡ true → unpacked_field (packed_column k) (packed_field f) ≡ f
unfolding field_ok unpacked_field packed_column packed_field
field-forth None None e = refl
field-forth None (Some f) e = absurd (false≢true e)
field-forth (Some k) None e = absurd (false≢true e)
field-forth (Some k) (Some f) e = refl

fields-forth : (ks : Places model.Column) (fs : Places Field) → fields_ok ks fs ≡ true
    → zip_with unpacked_field (map packed_column ks) (map packed_field fs) ≡ fs
unfolding fields_ok zip_with
fields-forth [] [] e = refl
fields-forth [] (f ∷ fs) e = absurd (false≢true e)
fields-forth (k ∷ ks) [] e = refl
fields-forth (k ∷ ks) (f ∷ fs) e =
    ap₂ (λ (x : Option Field) (r : Places Field). x ∷ r) (field-forth k f (and-fst (field_ok k f) (fields_ok ks fs) e)) (fields-forth ks fs (and-snd (field_ok k f) (fields_ok ks fs) e))

row-forth : (bs : Places Class) (ks : Places model.Column) (r : model.Row) → row_ok bs ks r ≡ true → unpacked_row (map packed_column ks) (packed_row r) ≡ r
unfolding row_ok packed_row unpacked_row
row-forth bs ks r e = λ i. record { exist = r.exist; fields = fields-forth ks r.fields (and-snd (any (sure (same r.exist)) bs) (fields_ok ks r.fields) e) i }

-- the rows that are there, of the array that is filled up to m
pub rows-there : (m : ℕ) (l : List model.Row) → take (length l) (pad no_row m (map packed_row l)) ≡ map packed_row l
unfolding pad
rows-there m l = take_at (map packed_row l) (replicate (m - length (map packed_row l)) no_row) (length l) (length-map l packed_row)

-- ---- tables, directories, the store
pub table-forth : (t : model.Table) → table_ok t ≡ true → unpacked_table (packed_table (Some t)) ≡ Some t
unfolding packed_table unpacked_table table_of rows_in
table-forth t e =
    λ i. Some (record {
      class = t.class;
      max = t.max;
      berths = map_back packed_berth unpacked_berth berth-forth t.berths i;
      groups = map_back packed_group unpacked_group group-forth t.groups i;
      columns = map_back packed_column unpacked_column column-forth t.columns i;
      rows =
          (ap (map (unpacked_row (map packed_column t.columns))) (rows-there 32 t.rows)
          ∙ all_back packed_row (unpacked_row (map packed_column t.columns)) (row_ok t.berths t.columns) (row-forth t.berths t.columns) t.rows (table-rules t e).filled) i;
    })

pub directory-forth : (d : model.Directory) → directory_ok d ≡ true → unpacked_directory (packed_directory (Some d)) ≡ Some d
unfolding directory_ok packed_directory unpacked_directory directory_of packed_table unpacked_table
directory-forth d e =
    λ i. Some (record {
      exist = d.exist;
      class = d.class;
      tables = in_back packed_table unpacked_table table_ok refl table-forth d.tables (and-snd (eqb (length d.tables) 2) (all_in table_ok d.tables) e) i;
    })

pub unpacked-packed : (s : model.Store) → ruled s ≡ true → unpacked (packed s) ≡ s
unfolding ruled packed unpacked packed_directory unpacked_directory
unpacked-packed s e =
    in_back packed_directory unpacked_directory directory_ok refl directory-forth s (and-snd (eqb (length s) 4) (all_in directory_ok s) e)
