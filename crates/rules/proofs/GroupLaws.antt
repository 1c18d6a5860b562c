-- The group at a number, as an array is read.
-- Assumes nothing.
use mathlib.Core.Path.{◌≡◌, refl}
use mathlib.Core.Bool.{false}
use mathlib.Core.List.{List, [], ◌∷◌, map}
use Prim.Native.Nat.{◌<◌, ◌≤◌, suc, zero, ℕ}
use native.Mathlib.Omega.{arith}
use lib.ListN.{get_or, length}
use Rattle.model.specs.declared.Class.{Class}
use Rattle.model.specs.Places.{at}
use Rattle.store.specs.declared.Group.{Group}
use Rattle.store.specs.Packed.{unpacked_group}
use Rattle.rules.specs.Kept.{group_over}

-- the one that is read. The first part is always true: it shows where the lemma is to be used
pub group_read : (gs : List Group) (n : ℕ) (d : Group) → n < length gs → (get_or gs n d ≡ get_or gs n d) × (at n (map unpacked_group gs) ≡ unpacked_group (get_or gs n d))
group_read [] n d h = absurd (omega arith)
group_read (x ∷ gs) zero d h = (refl, refl)
group_read (x ∷ gs) (suc n) d h = (refl, (group_read gs n d (omega arith)).1)

-- past the groups there is none
pub group_past : (gs : List Group) (n : ℕ) (c : Class) → length gs ≤ n → group_over gs n c ≡ false
group_past [] n c h = refl
group_past (x ∷ gs) zero c h = absurd (omega arith)
group_past (x ∷ gs) (suc n) c h = group_past gs n c (omega arith)
