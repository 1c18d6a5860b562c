-- Tests in a row, grouped to the left, and the tests as a list.
-- Assumes nothing.
use mathlib.Core.Path.{◌∙◌, ◌≡◌, refl, sym}
use mathlib.Core.Bool.{Bool, ◌&&◌, false, true}
use mathlib.Core.List.{List, [], ◌++◌, ◌∷◌}
use Rattle.model.specs.Places.{conj}

abbrev pub chain_from : Bool → List Bool → Bool
chain_from b [] = b
chain_from b (x ∷ xs) = chain_from (b && x) xs

abbrev pub chain : List Bool → Bool
chain [] = true
chain (b ∷ xs) = chain_from b xs

chain_from_lem : (b : Bool) (xs : List Bool) → chain_from b xs ≡ (b && conj xs)
chain_from_lem true [] = refl
chain_from_lem false [] = refl
chain_from_lem true (x ∷ xs) = chain_from_lem x xs
chain_from_lem false (x ∷ xs) = chain_from_lem false xs

pub chain-conj : (xs : List Bool) → chain xs ≡ conj xs
chain-conj [] = refl
chain-conj (b ∷ xs) = chain_from_lem b xs

-- a test that always passes may be left out, the last of two or at the end of a list
pub and-sure : (a b : Bool) → b ≡ true → a ≡ (a && b)
and-sure true b e = sym e
and-sure false b e = refl

conj-append : (xs ys : List Bool) → (conj xs && conj ys) ≡ conj (xs ++ ys)
conj-append [] ys = refl
conj-append (true ∷ xs) ys = conj-append xs ys
conj-append (false ∷ xs) ys = refl

pub chain-sure : (xs ys : List Bool) → conj ys ≡ true → chain xs ≡ conj (xs ++ ys)
chain-sure xs ys e = chain-conj xs ∙ and-sure (conj xs) (conj ys) e ∙ conj-append xs ys
