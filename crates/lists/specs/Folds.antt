-- What a walk over one list or two answers, over any type of element and any test.
-- Assumes nothing.
use Rattle.std.specs.Prelude.{Bool, true, false, ◌&&◌, List, [], ◌∷◌, ℕ}
use Rattle.model.specs.Places.{when, gather, tick}

-- how many elements pass
abbrev pub count_in : {A : Type 0} → (A → Bool) → List A → ℕ
count_in p [] = 0
count_in p (x ∷ l) = tick (p x) (count_in p l)

-- those that pass, each changed by f
abbrev pub kept_in : {A B : Type 0} → (A → Bool) → (A → B) → List A → List B
kept_in p f l = gather (λ (x : _). when (p x) (f x)) l

-- each of one list passes with the one at its number in the other, and the two are as long
abbrev pub all_pairs : {A B : Type 0} → (A → B → Bool) → List A → List B → Bool
all_pairs p [] [] = true
all_pairs p [] (b ∷ m) = false
all_pairs p (a ∷ l) [] = false
all_pairs p (a ∷ l) (b ∷ m) = p a b && all_pairs p l m
