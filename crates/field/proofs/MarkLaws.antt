-- A value read by its mark and the part behind it.
-- Assumes nothing.
use mathlib.Core.Path.{◌≡◌, refl}
use mathlib.Core.List.{[], ◌∷◌}
use Rattle.std.specs.Prelude.{None}
use Prim.Native.Nat.{◌-◌, ◌<◌, ℕ}
use native.Mathlib.Omega.{arith}
use lib.ListN.{drop, get_or, length, take}
use Rattle.model.specs.Forms.{◌>>=◌, pick}
use Rattle.model.specs.Numbers.{Bytes}
use Rattle.model.specs.Texts.{Mark, marks, read_marked, read_value}
use Rattle.class.proofs.TextLaws.{to_end}

module _ (w : ℕ) where
  -- an empty text is no value
  pub value_none : (s : Bytes) → length s ≡ 0 → read_value w s ≡ None
  unfolding read_value
  value_none [] h = refl
  value_none (b ∷ bs) h = absurd (omega arith)

  -- any other is told by its first byte and the rest
  pub value_first : (s : Bytes) → 0 < length s → read_value w s ≡ (pick marks (get_or s 0 0) >>= λ (m : Mark). read_marked w m (take (length s - 1) (drop 1 s)))
  unfolding read_value
  value_first [] h = absurd (omega arith)
  value_first (b ∷ bs) h = rw (to_end 1 (b ∷ bs))
