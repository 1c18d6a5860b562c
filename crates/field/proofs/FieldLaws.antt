-- The fields of a line: its text is the head's, and then that of each field with its tabs.
-- Assumes nothing.
use mathlib.Core.Path.{◌≡◌, ap, refl}
use mathlib.Core.List.{List, [], ◌++◌, ◌∷◌, append_assoc}
use Prim.Native.Nat.{ℕ}
use Rattle.model.specs.declared.Field.{Field}
use Rattle.model.specs.Lines.{flat, join}
use Rattle.model.specs.Numbers.{Bytes}
use Rattle.model.specs.Texts.{class_text, field_texts, value_text}
use Rattle.field.specs.Writing.{field_text}

module _ (w : ℕ) where
  -- the texts of fields, a tab before each
  pub flat-fields : (fs : List Field) → flat (λ (y : Bytes). 9 ∷ y) (field_texts w fs) ≡ flat (field_text w) fs
  unfolding field_texts field_text
  flat-fields [] = refl
  flat-fields (f ∷ fs) =
      rw (append_assoc (class_text w f.class) (9 ∷ value_text w f.value) (flat (field_text w) fs))
      (ap (λ (t : Bytes). 9 ∷ (class_text w f.class ++ (9 ∷ (value_text w f.value ++ t)))) (flat-fields fs))

  -- a line's text: fields behind a first text x
  pub join-fields : (x : Bytes) (fs : List Field) → join 9 (x ∷ field_texts w fs) ≡ x ++ flat (field_text w) fs
  unfolding join
  join-fields x fs = ap (λ (t : Bytes). x ++ t) (flat-fields fs)
