-- Every element of a list, every part that is there, has a property; and a test of all of them, as such.
-- Assumes nothing.
use mathlib.Core.Path.{◌≡◌, ap, refl}
use mathlib.Core.Bool.{Bool, true}
use mathlib.Core.List.{List, [], ◌++◌, ◌∷◌, map}
use Rattle.std.specs.Prelude.{None, Some}
use Rattle.model.specs.Places.{Places, all, all_in, conj, filled}
use Rattle.model.specs.Conditions.{Every}
use Rattle.model.proofs.Tests.{and-fst, and-snd, both}

-- ---- tests that all pass
pub facts : (bs : List Bool) → conj bs ≡ true → Every (λ (b : Bool). b ≡ true) bs
facts [] e = tt
facts (b ∷ bs) e = (and-fst b (conj bs) e, facts bs (and-snd b (conj bs) e))

pub of_facts : (bs : List Bool) → Every (λ (b : Bool). b ≡ true) bs → conj bs ≡ true
of_facts [] h = refl
of_facts (b ∷ bs) h = both b (conj bs) h.0 (of_facts bs h.1)

module _ {A : Type 0} where
  -- ---- lists
  pub every_append : (P : A → Type 0) (l m : List A) → Every P l → Every P m → Every P (l ++ m)
  every_append P [] m h k = k
  every_append P (a ∷ l) m h k = (h.0, every_append P l m h.1 k)

  pub every_split : (P : A → Type 0) (l m : List A) → Every P (l ++ m) → Every P l × Every P m
  every_split P [] m h = (tt, h)
  every_split P (a ∷ l) m h = let (x, y) = every_split P l m h.1 in ((h.0, x), y)

  pub every_imp : (P Q : A → Type 0) → ((a : A) → P a → Q a) → (l : List A) → Every P l → Every Q l
  every_imp P Q f [] h = tt
  every_imp P Q f (a ∷ l) h = (f a h.0, every_imp P Q f l h.1)

  pub every_true : (p : A → Bool) (l : List A) → all p l ≡ true → Every (λ (a : A). p a ≡ true) l
  every_true p [] e = tt
  every_true p (a ∷ l) e = (and-fst (p a) (all p l) e, every_true p l (and-snd (p a) (all p l) e))

  pub true_every : (p : A → Bool) (l : List A) → Every (λ (a : A). p a ≡ true) l → all p l ≡ true
  true_every p [] h = refl
  true_every p (a ∷ l) h = both (p a) (all p l) h.0 (true_every p l h.1)

  -- ---- places
  abbrev pub EveryIn : (A → Type 0) → Places A → Type 0
  EveryIn P [] = Unit {0}
  EveryIn P (None ∷ l) = EveryIn P l
  EveryIn P (Some a ∷ l) = P a × EveryIn P l

  pub in_imp : (P Q : A → Type 0) → ((a : A) → P a → Q a) → (l : Places A) → EveryIn P l → EveryIn Q l
  in_imp P Q f [] h = tt
  in_imp P Q f (None ∷ l) h = in_imp P Q f l h
  in_imp P Q f (Some a ∷ l) h = (f a h.0, in_imp P Q f l h.1)

  pub in_both : (P Q : A → Type 0) (l : Places A) → EveryIn P l → EveryIn Q l → EveryIn (λ (a : A). P a × Q a) l
  in_both P Q [] h k = tt
  in_both P Q (None ∷ l) h k = in_both P Q l h k
  in_both P Q (Some a ∷ l) h k = ((h.0, k.0), in_both P Q l h.1 k.1)

  pub in_true : (p : A → Bool) (l : Places A) → all_in p l ≡ true → EveryIn (λ (a : A). p a ≡ true) l
  in_true p [] e = tt
  in_true p (None ∷ l) e = in_true p l e
  in_true p (Some a ∷ l) e = (and-fst (p a) (all_in p l) e, in_true p l (and-snd (p a) (all_in p l) e))

  pub true_in : (p : A → Bool) (l : Places A) → EveryIn (λ (a : A). p a ≡ true) l → all_in p l ≡ true
  true_in p [] h = refl
  true_in p (None ∷ l) h = true_in p l h
  true_in p (Some a ∷ l) h = both (p a) (all_in p l) h.0 (true_in p l h.1)

  -- the parts that are there, as a list
  pub every_filled : (P : A → Type 0) (l : Places A) → EveryIn P l → Every P (filled l)
  every_filled P [] h = tt
  every_filled P (None ∷ l) h = every_filled P l h
  every_filled P (Some a ∷ l) h = (h.0, every_filled P l h.1)

  pub filled_every : (P : A → Type 0) (l : Places A) → Every P (filled l) → EveryIn P l
  filled_every P [] h = tt
  filled_every P (None ∷ l) h = filled_every P l h
  filled_every P (Some a ∷ l) h = (h.0, filled_every P l h.1)

module _ {A B : Type 0} where
  pub every_map : (P : A → Type 0) (Q : B → Type 0) (f : A → B) → ((a : A) → P a → Q (f a)) → (l : List A) → Every P l → Every Q (map f l)
  every_map P Q f g [] h = tt
  every_map P Q f g (a ∷ l) h = (g a h.0, every_map P Q f g l h.1)

  pub every_unmap : (P : A → Type 0) (Q : B → Type 0) (f : A → B) → ((a : A) → Q (f a) → P a) → (l : List A) → Every Q (map f l) → Every P l
  every_unmap P Q f g [] h = tt
  every_unmap P Q f g (a ∷ l) h = (g a h.0, every_unmap P Q f g l h.1)

  pub map-append : (f : A → B) (l m : List A) → map f (l ++ m) ≡ map f l ++ map f m
  map-append f [] m = refl
  map-append f (a ∷ l) m = ap (λ (x : List B). f a ∷ x) (map-append f l m)
