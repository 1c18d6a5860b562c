-- The fields of a row, a column after another: a turn of the loop that writes them, and its end.
-- Assumes nothing.
use Rattle.std.proofs.Common.{◌≡◌, ◌∙◌, ap₂, refl, Bool, false, true, List, [], ◌++◌, ◌∷◌, ◌⊎◌, ⊎_elim, length, arith}
use mathlib.Core.List.{zip_with}
use Rattle.model.specs.declared.Field.{Field}
use Rattle.model.specs.Lines.{flat}
use Rattle.model.specs.Places.{filled, when}
use Rattle.field.specs.Writing.{field_text}
use Rattle.store.specs.declared.Column.{Column}
use Rattle.store.specs.Packed.{unpacked_field}
use Rattle.entries.specs.Lines.{fields_text}

-- the next column's field is the next part of the text, if the column is there
pub fields_one : {kks ks : List Column} {k : Column} {ffs fs : List Field} {f : Field} → kks ≡ k ∷ ks → ffs ≡ f ∷ fs → k.there ≡ true → fields_text kks ffs ≡ field_text 8 f ++ fields_text ks fs
unfolding fields_text zip_with unpacked_field
fields_one {kks} {ks} {k} {ffs} {fs} {f} e d t = ap₂ fields_text e d ∙ go k.there t
  where
    go : (b : Bool) → b ≡ true → flat (field_text 8) (filled (when b f ∷ zip_with unpacked_field ks fs)) ≡ field_text 8 f ++ flat (field_text 8) (filled (zip_with unpacked_field ks fs))
    go true h = refl
    go false h = absurd (cc)

pub fields_none : {kks ks : List Column} {k : Column} {ffs fs : List Field} {f : Field} → kks ≡ k ∷ ks → ffs ≡ f ∷ fs → k.there ≡ false → fields_text kks ffs ≡ fields_text ks fs
unfolding fields_text zip_with unpacked_field
fields_none {kks} {ks} {k} {ffs} {fs} {f} e d t = ap₂ fields_text e d ∙ go k.there t
  where
    go : (b : Bool) → b ≡ false → flat (field_text 8) (filled (when b f ∷ zip_with unpacked_field ks fs)) ≡ flat (field_text 8) (filled (zip_with unpacked_field ks fs))
    go true h = absurd (cc)
    go false h = refl

-- no column, or no field
pub fields_end : (ks : List Column) (fs : List Field) → (length ks ≡ 0) ⊎ (length fs ≡ 0) → fields_text ks fs ≡ []
unfolding fields_text zip_with
fields_end [] fs h = refl
fields_end (k ∷ ks) [] h = refl
fields_end (k ∷ ks) (f ∷ fs) h = absurd (⊎_elim (λ (e : length (k ∷ ks) ≡ 0). omega arith) (λ (e : length (f ∷ fs) ≡ 0). omega arith) h)
