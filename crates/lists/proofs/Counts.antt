-- How many elements pass, as a chain counts them.
-- Assumes nothing.
use mathlib.Core.Path.{◌≡◌, ap, refl}
use mathlib.Core.Bool.{Bool, false, true, cond}
use mathlib.Core.List.{List, [], ◌∷◌}
use Prim.Native.Nat.{suc}
use Rattle.std.specs.List.{filter}
use lib.ListN.{length}
use Rattle.model.specs.Places.{tick}
use Rattle.lists.specs.Folds.{count_in}

-- those that pass are as many
pub count_same : {A : Type 0} (p : A → Bool) (l : List A) → count_in p l ≡ length (filter p l)
count_same p [] = refl
count_same p (x ∷ l) = go (p x) (count_same p l)
  where
    go : (b : Bool) → count_in p l ≡ length (filter p l) → tick b (count_in p l) ≡ length (cond b (x ∷ filter p l) (filter p l))
    go true e = ap suc e
    go false e = e
