-- Parts that may be absent: a test of each that is there, and the same test of what they stand for. For parts of any type.
-- Assumes nothing.
use mathlib.Core.Path.{◌≡◌, ap, refl}
use mathlib.Core.Bool.{Bool, ◌&&◌, ◌||◌, false, not, true}
use mathlib.Core.List.{List, [], ◌∷◌, map}
use Rattle.model.specs.Places.{Places, all, all_in, any, when}

-- ---- each part of a list
-- one part before the others
pub one_more : {A : Type 0} (p : A → Bool) (t : Bool) (a : A) (m : Bool) (l : Places A) → m ≡ all_in p l → ((not t || p a) && m) ≡ all_in p (when t a ∷ l)
one_more p true a m l e = ap (λ (x : Bool). p a && x) e
one_more p false a m l e = e

-- all that are there pass
pub all-kept : {A B : Type 0} (there : B → Bool) (of : B → A) (p : A → Bool) (l : List B)
    → all (λ (b : B). not (there b) || p (of b)) l ≡ all_in p (map (λ (b : B). when (there b) (of b)) l)
all-kept there of p [] = refl
all-kept there of p (b ∷ l) = one_more p (there b) (of b) _ (map (λ (b : _). when (there b) (of b)) l) (all-kept there of p l)

-- ---- each element of a list, by what it stands for
-- one of them passes
pub any_map : {A B : Type 0} (p : A → Bool) (f : B → A) (l : List B) → any (λ (b : B). p (f b)) l ≡ any p (map f l)
any_map p f [] = refl
any_map p f (b ∷ l) = ap (λ (x : Bool). p (f b) || x) (any_map p f l)
