-- The rows that a clearance sees: a row of the structs, under the columns that are kept, is the row of the definition, packed.
-- Assumes nothing.
use mathlib.Core.Path.{◌≡◌, ap₂, refl}
use mathlib.Core.Bool.{Bool, false, true}
use mathlib.Core.List.{List, [], ◌++◌, ◌∷◌, map, zip_with}
use Prim.Native.Nat.{◌+◌, ◌<◌, ℕ}
use lib.ListN.{get_or, length, take}
use Rattle.std.proofs.Common.{append-nil}
use Rattle.std.proofs.lemmas.List.{take_more}
use Rattle.std.proofs.lemmas.List.Elements.{filter_map-append}
use Rattle.model.specs.declared.Class.{Class}
use Rattle.model.specs.Classes.{dominates}
use Rattle.model.specs.declared.Field.{Field}
use Rattle.model.specs.Places.{Places, and_then, at, gather, on_places, present}
use Rattle.model.specs.View.{cut, view_column, view_field, view_fields, view_row}
use Rattle.store.specs.declared.Row.{Row}
use Rattle.store.specs.declared.Column.{Column}
use Rattle.store.specs.Packed.{column_of, packed_column, packed_field, packed_row, unpacked_column, unpacked_field, unpacked_row}
use Rattle.view.specs.Seen.{seen_row, seen_rows, sees_row, show_field}
use Rattle.view.proofs.Through.{kept-through}

-- a column under the groups gs that are kept
unfoldable pub kept : Places Class → Column → Column
kept gs k = packed_column (and_then (unpacked_column k) (view_column gs))

module _ (c : Class) (gs : Places Class) where
  field-seen : (k : Column) (f : Field)
      → packed_field (view_field c (and_then (unpacked_column k) (view_column gs)) (unpacked_field k f)) ≡ show_field c (kept gs k) f
  unfolding kept packed_field view_field unpacked_field unpacked_column column_of show_field view_column packed_column
  field-seen k f = go k.there (present (at k.group gs)) refl refl
    where
      go : (x y : Bool) → k.there ≡ x → present (at k.group gs) ≡ y
          → packed_field (view_field c (and_then (unpacked_column k) (view_column gs)) (unpacked_field k f)) ≡ show_field c (kept gs k) f
      go true true p q = rw (p, q)
      go true false p q = rw (p, q)
      go false y p q = rw p

  fields-seen : (ks : List Column) (fs : List Field)
      → map packed_field (view_fields c (on_places (view_column gs) (map unpacked_column ks)) (zip_with unpacked_field ks fs)) ≡ zip_with (show_field c) (map (kept gs) ks) fs
  unfolding view_fields zip_with
  fields-seen [] fs = refl
  fields-seen (k ∷ ks) [] = refl
  fields-seen (k ∷ ks) (f ∷ fs) = ap₂ (λ (x : Field) (r : List Field). x ∷ r) (field-seen k f) (fields-seen ks fs)

  row_seen : (ks : List Column) (r : Row)
      → packed_row (cut c (on_places (view_column gs) (map unpacked_column ks)) (unpacked_row ks r)) ≡ seen_row c (map (kept gs) ks) r
  unfolding packed_row cut unpacked_row seen_row
  row_seen ks r = λ i. record { exist = r.exist; fields = fields-seen ks r.fields i }

  pub rows_seen : (ks : List Column) (l : List Row)
      → map packed_row (gather (view_row c (on_places (view_column gs) (map unpacked_column ks))) (map (unpacked_row ks) l)) ≡ seen_rows c (map (kept gs) ks) l
  unfolding view_row unpacked_row
  rows_seen ks l =
      kept-through (unpacked_row ks) packed_row (sees_row c) (cut c (on_places (view_column gs) (map unpacked_column ks))) (seen_row c (map (kept gs) ks)) (row_seen ks)
      (view_row c (on_places (view_column gs) (map unpacked_column ks))) (λ r. refl) l

-- what is kept of one row more, which is kept or not
module _ (c : Class) (ks : List Column) (l : List Row) (i : ℕ) (d : Row) (h : i < length l) where
  pub row_in : dominates c (get_or l i d).exist ≡ true → seen_rows c ks (take (i + 1) l) ≡ seen_rows c ks (take i l) ++ seen_row c ks (get_or l i d) ∷ []
  row_in e = rw (take_more l i d h, filter_map-append) simp e

  pub row_out : dominates c (get_or l i d).exist ≡ false → seen_rows c ks (take (i + 1) l) ≡ seen_rows c ks (take i l)
  row_out e = rw (take_more l i d h, filter_map-append) simp (e, append-nil)
