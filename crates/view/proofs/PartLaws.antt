-- The berths, groups and columns that a clearance sees.
-- Assumes nothing.
use mathlib.Core.Path.{◌∙◌, ◌≡◌, ap, refl, sym}
use mathlib.Core.Bool.{Bool, false, true}
use mathlib.Core.List.{List, [], ◌∷◌, map}
use Prim.Native.Nat.{◌<◌, ◌≤◌, suc, zero, ℕ}
use native.Mathlib.Omega.{arith}
use lib.ListN.{get_or, length}
use Rattle.model.specs.declared.Class.{Class}
use Rattle.model.specs.Places.{at, on_places, present, when}
use Rattle.model.specs.View.{seen, view_groups}
use Rattle.store.specs.declared.Group.{Group}
use Rattle.store.specs.Packed.{packed_group, unpacked_group}
use Rattle.store.proofs.PartLaws.{map_back}
use Rattle.store.proofs.Forth.{group-forth}
use Rattle.view.specs.Seen.{seen_group}
use Rattle.view.proofs.Through.{through}

-- the groups that are kept stand for those of the definition
pub groups-seen : (c : Class) (gs : List Group) → map unpacked_group (map (seen_group c) gs) ≡ view_groups c (map unpacked_group gs)
unfolding seen_group view_groups
groups-seen c gs =
    ap (map unpacked_group) (sym (through unpacked_group packed_group (seen c) gs))
    ∙ map_back packed_group unpacked_group group-forth (on_places (seen c) (map unpacked_group gs))

when-present : {A : Type 0} (t : Bool) (a : A) → t ≡ present (when t a)
when-present true a = refl
when-present false a = refl

-- the group of a number
pub group_at : (gs : List Group) (n : ℕ) (d : Group) → n < length gs → (get_or gs n d).there ≡ present (at n (map unpacked_group gs))
unfolding unpacked_group
group_at [] n d h = absurd (omega arith)
group_at (g ∷ gs) zero d h = when-present g.there g.exist
group_at (g ∷ gs) (suc n) d h = group_at gs n d (omega arith)

pub group_past : (gs : List Group) (n : ℕ) → length gs ≤ n → false ≡ present (at n (map unpacked_group gs))
group_past [] n h = refl
group_past (g ∷ gs) zero h = absurd (omega arith)
group_past (g ∷ gs) (suc n) h = group_past gs n (omega arith)
