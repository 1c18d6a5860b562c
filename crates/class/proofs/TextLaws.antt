-- A class read by its first byte and the rest.
-- Assumes nothing.
use mathlib.Core.Path.{◌≡◌, refl}
use mathlib.Core.Bool.{cond}
use mathlib.Core.List.{[], ◌∷◌}
use Rattle.std.specs.Prelude.{None}
use Prim.Native.Nat.{◌-◌, ◌<◌, ◌≤◌, ℕ}
use native.Mathlib.Omega.{arith}
use lib.ListN.{drop, get_or, length, length-drop, take}
use lib.Seq.{take_all}
use Rattle.model.specs.Numbers.{Bytes, between, read_hex}
use Rattle.model.specs.Places.{map_o}
use Rattle.model.specs.Texts.{read_class}
use Rattle.model.proofs.NumberLaws.{in_range, over_range, under_range}

-- a part to a text's end is the text without its start
pub to_end : (a : ℕ) (s : Bytes) → take (length s - a) (drop a s) ≡ drop a s
to_end a s = take_all (length s - a) (drop a s) (simp length-drop (omega arith))

module _ (w : ℕ) where
  -- an empty text is no class
  pub class_none : (s : Bytes) → length s ≡ 0 → read_class w s ≡ None
  unfolding read_class
  class_none [] h = refl
  class_none (b ∷ bs) h = absurd (omega arith)

  -- any other is told by its first byte and the rest
  class-some : (s : Bytes) → 0 < length s
      → read_class w s ≡ cond (between 48 (get_or s 0 0) 51) (map_o (λ (m : ℕ). record { level = get_or s 0 0 - 48; marks = m }) (read_hex w (drop 1 s))) None
  unfolding read_class
  class-some [] h = absurd (omega arith)
  class-some (b ∷ bs) h = refl

  -- a first byte that is no level
  pub class_under : (s : Bytes) → get_or s 0 0 < 48 → 0 < length s → read_class w s ≡ None
  class_under s k h = rw (class-some s h, under_range 48 (get_or s 0 0) 51 k)

  pub class_over : (s : Bytes) → 51 < get_or s 0 0 → 0 < length s → read_class w s ≡ None
  class_over s k h = rw (class-some s h, over_range 48 (get_or s 0 0) 51 k)

  -- a level, and what the part behind it is read as
  pub class_by : (s : Bytes) → 48 ≤ get_or s 0 0 → get_or s 0 0 ≤ 51 → 0 < length s
      → read_class w s ≡ map_o (λ (m : ℕ). record { level = get_or s 0 0 - 48; marks = m }) (read_hex w (take (length s - 1) (drop 1 s)))
  class_by s p q h = rw (class-some s h, in_range 48 (get_or s 0 0) 51 p q, to_end 1 s)
