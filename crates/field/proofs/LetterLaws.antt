-- A field of one letter, read by its length and its byte. The list of letters may be any.
-- Assumes nothing.
use mathlib.Core.Path.{◌≡◌, refl}
use mathlib.Core.List.{List, [], ◌∷◌}
use Rattle.std.specs.Prelude.{None}
use Prim.Native.Nat.{ℕ}
use native.Mathlib.Omega.{arith}
use lib.ListN.{get_or, length}
use Rattle.model.specs.Forms.{pick}
use Rattle.model.specs.Numbers.{Bytes}
use Rattle.model.specs.Texts.{read_letter}

module _ {A : Type 0} (l : List (ℕ × A)) where
  -- one byte is picked from the list
  pub letter_one : (s : Bytes) → length s ≡ 1 → read_letter l s ≡ pick l (get_or s 0 0)
  unfolding read_letter
  letter_one [] h = absurd (omega arith)
  letter_one (b ∷ []) h = refl
  letter_one (b ∷ d ∷ bs) h = absurd (omega arith)

  -- none or more are no letter
  pub letter_not : (s : Bytes) → (length s ≡ 1 → ⊥) → read_letter l s ≡ None
  unfolding read_letter
  letter_not [] h = refl
  letter_not (b ∷ []) h = absurd (h refl)
  letter_not (b ∷ d ∷ bs) h = refl
