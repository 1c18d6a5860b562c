-- A row set behind the last of a table in the structs is the row placed in the model's table.
-- Assumes nothing.
use mathlib.Core.Path.{◌∙◌, ◌≡◌, refl}
use Rattle.std.specs.Prelude.{List, [], ◌∷◌, map, ◌<◌, length, Option, None, Some}
use borrow.Author.Tests.{lt-ltb}
use Rattle.model.specs.declared.Class.{Class}
use Rattle.model.specs.declared.Field.{Field}
use Rattle.model.specs.Places.{Places, map_o}
use Rattle.model.specs.Parts as model
use Rattle.model.specs.Records as records
use Rattle.store.specs.Packed.{no_field, packed_column, packed_field, packed_table}
use Rattle.placing.specs.Rows.{row_set, spread, with_row}
use Rattle.placing.proofs.TableLaws.{row_packed}

-- ---- the fields of a row, one for each column
absent : (o : Option (Places Field)) → map_o (λ (l : List Field). no_field ∷ l) (map_o (map packed_field) o) ≡ map_o (map packed_field) (map_o (λ (l : Places Field). None ∷ l) o)
unfolding packed_field
absent None = refl
absent (Some l) = refl

given : (f : Field) (o : Option (Places Field)) → map_o (λ (l : List Field). f ∷ l) (map_o (map packed_field) o) ≡ map_o (map packed_field) (map_o (λ (l : Places Field). Some f ∷ l) o)
unfolding packed_field
given f None = refl
given f (Some l) = refl

pub spread_packed : (ks : Places model.Column) (fs : List Field) → spread (map packed_column ks) fs ≡ map_o (map packed_field) (records.spread ks fs)
unfolding records.spread packed_column
spread_packed [] [] = refl
spread_packed [] (f ∷ fs) = refl
spread_packed (None ∷ ks) [] = rw (spread_packed ks []) (absent (records.spread ks []))
spread_packed (None ∷ ks) (f ∷ fs) = rw (spread_packed ks (f ∷ fs)) (absent (records.spread ks (f ∷ fs)))
spread_packed (Some k ∷ ks) [] = refl
spread_packed (Some k ∷ ks) (f ∷ fs) = rw (spread_packed ks fs) (given f (records.spread ks fs))

-- ---- a row in a table that holds fewer than it can
pub row_placed : (k : Class) (fs : List Field) (t : model.Table) → length t.rows < 32
    → map_o (λ (u : model.Table). packed_table (Some u)) (records.place_inside (records.row k fs) t) ≡ row_set k fs (packed_table (Some t))
unfolding row_set with_row packed_table
row_placed k fs t h = row_packed k fs t h ∙ rw (lt-ltb (length t.rows) 32 h, spread_packed t.columns fs) refl
