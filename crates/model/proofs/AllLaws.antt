-- Tests that each element of a list, or each part that is there, passes; and what keeps them.
-- Assumes nothing.
use mathlib.Core.Path.{◌≡◌, ap, refl, sym}
use mathlib.Core.Bool.{Bool, cond, false, false≢true, not, true}
use mathlib.Core.List.{List, [], ◌++◌, ◌∷◌}
use Rattle.std.specs.Prelude.{Option, None, Some}
use Prim.Native.Nat.{suc, zero, ℕ}
use lib.ListN.{length}
use Rattle.model.specs.Places.{Places, all, all_in, alter, any, at, emptied, gather, map_o, on_places, or_else, present, push, sure, when}
use Rattle.model.proofs.Tests.{and-fst, and-map, and_right, and-snd, both, nor_fst, nor_snd, not-false}
use Rattle.model.proofs.OptionLaws.{nothing_is}

-- ---- what may be absent
-- q of what is there, and yes where nothing is
abbrev pub unless : {A : Type 0} → (A → Bool) → Option A → Bool
unless q None = true
unless q (Some a) = q a

module _ {A : Type 0} (q : A → Bool) where
  pub unless-when : (b : Bool) (a : A) → (b ≡ true → q a ≡ true) → unless q (when b a) ≡ true
  unless-when true a e = e refl
  unless-when false a e = refl

  pub unless-cond : (b : Bool) (a : A) (o : Option A) → (b ≡ true → q a ≡ true) → unless q o ≡ true → unless q (cond b (Some a) o) ≡ true
  unless-cond true a o e h = e refl
  unless-cond false a o e h = h

  pub or_else_passes : (o : Option A) (d : A) → unless q o ≡ true → q d ≡ true → q (or_else o d) ≡ true
  or_else_passes None d e h = h
  or_else_passes (Some a) d e h = e

  -- something is there, and it does not fail
  pub sure_passes : (o : Option A) → not (present o) ≡ false → sure (λ (a : A). not (q a)) o ≡ false → sure q o ≡ true
  sure_passes None p e = absurd (false≢true (sym p))
  sure_passes (Some a) p e = not-false (q a) e

  -- ---- one more
  pub all_in-more : (o : Option A) (l : Places A) → unless q o ≡ true → all_in q l ≡ true → all_in q (o ∷ l) ≡ true
  all_in-more None l h e = e
  all_in-more (Some a) l h e = both (q a) (all_in q l) h e

  pub all_push : (o : Option A) (l : List A) → unless q o ≡ true → all q l ≡ true → all q (push o l) ≡ true
  all_push None l h e = e
  all_push (Some a) l h e = both (q a) (all q l) h e

  pub all_append : (l m : List A) → all q l ≡ true → all q m ≡ true → all q (l ++ m) ≡ true
  all_append [] m e h = h
  all_append (a ∷ l) m e h = and_right (q a) (all q l) (all q (l ++ m)) (λ k. all_append l m k h) e

  -- ---- one, and those that are left
  pub all_in-first : (o : Option A) (l : Places A) → all_in q (o ∷ l) ≡ true → unless q o ≡ true
  all_in-first None l e = refl
  all_in-first (Some a) l e = and-fst (q a) (all_in q l) e

  pub all_in-rest : (o : Option A) (l : Places A) → all_in q (o ∷ l) ≡ true → all_in q l ≡ true
  all_in-rest None l e = e
  all_in-rest (Some a) l e = and-snd (q a) (all_in q l) e

  pub all_in-at : (n : ℕ) (l : Places A) → all_in q l ≡ true → (a : A) → at n l ≡ Some a → q a ≡ true
  all_in-at n [] e a h = nothing_is h
  all_in-at zero (None ∷ l) e a h = nothing_is h
  all_in-at zero (Some x ∷ l) e a h =
      let p : x ≡ a = cc in
      rw p at (and-fst (q x) (all_in q l) e)
  all_in-at (suc n) (None ∷ l) e a h = all_in-at n l e a h
  all_in-at (suc n) (Some x ∷ l) e a h = all_in-at n l (and-snd (q x) (all_in q l) e) a h

  pub all_in-emptied : (l : Places A) → all_in q (emptied l) ≡ true
  all_in-emptied [] = refl
  all_in-emptied (o ∷ l) = all_in-emptied l

  pub all_in-alter : (g : A → A) (n : ℕ) (l : Places A) → ((a : A) → at n l ≡ Some a → q a ≡ true → q (g a) ≡ true)
      → all_in q l ≡ true → all_in q (alter n (map_o g) l) ≡ true
  all_in-alter g n [] each e = e
  all_in-alter g zero (None ∷ l) each e = e
  all_in-alter g zero (Some a ∷ l) each e = and-map (q a) (all_in q l) (q (g a)) (all_in q l) (each a refl) (λ h. h) e
  all_in-alter g (suc n) (None ∷ l) each e = all_in-alter g n l each e
  all_in-alter g (suc n) (Some a ∷ l) each e = and_right (q a) (all_in q l) (all_in q (alter n (map_o g) l)) (all_in-alter g n l each) e

-- ---- each passes afterwards that passed before; what a step takes away is not asked
module _ {A B : Type 0} (p : A → Bool) (q : B → Bool) (f : A → Option B) (each : (a : A) → p a ≡ true → unless q (f a) ≡ true) where
  pub all_in-on_places : (l : Places A) → all_in p l ≡ true → all_in q (on_places f l) ≡ true
  all_in-on_places [] e = refl
  all_in-on_places (None ∷ l) e = all_in-on_places l e
  all_in-on_places (Some a ∷ l) e = all_in-more q (f a) (on_places f l) (each a (and-fst (p a) (all_in p l) e)) (all_in-on_places l (and-snd (p a) (all_in p l) e))

  pub all-gather : (l : List A) → all p l ≡ true → all q (gather f l) ≡ true
  all-gather [] e = refl
  all-gather (a ∷ l) e = all_push q (f a) (gather f l) (each a (and-fst (p a) (all p l) e)) (all-gather l (and-snd (p a) (all p l) e))

module _ {A : Type 0} (p q : A → Bool) where
  pub all_in_imp : ((a : A) → p a ≡ true → q a ≡ true) → (l : Places A) → all_in p l ≡ true → all_in q l ≡ true
  all_in_imp each [] e = refl
  all_in_imp each (None ∷ l) e = all_in_imp each l e
  all_in_imp each (Some a ∷ l) e = and-map (p a) (all_in p l) (q a) (all_in q l) (each a) (all_in_imp each l) e

  -- each passes for which two tests fail that none passes
  pub all_neither : (r : A → Bool) → ((a : A) → p a ≡ false → q a ≡ false → r a ≡ true)
      → (l : List A) → any p l ≡ false → any q l ≡ false → all r l ≡ true
  all_neither r each [] e h = refl
  all_neither r each (a ∷ l) e h =
      both (r a) (all r l) (each a (nor_fst (p a) (any p l) e) (nor_fst (q a) (any q l) h))
      (all_neither r each l (nor_snd (p a) (any p l) e) (nor_snd (q a) (any q l) h))

-- ---- how many places there are
pub length-on_places : {A B : Type 0} (f : A → Option B) (l : Places A) → length (on_places f l) ≡ length l
length-on_places f [] = refl
length-on_places f (o ∷ l) = ap suc (length-on_places f l)

pub length-emptied : {A : Type 0} (l : Places A) → length (emptied l) ≡ length l
length-emptied [] = refl
length-emptied (o ∷ l) = ap suc (length-emptied l)

pub length-alter : {A : Type 0} (f : A → A) (n : ℕ) (l : List A) → length (alter n f l) ≡ length l
length-alter f n [] = refl
length-alter f zero (a ∷ l) = refl
length-alter f (suc n) (a ∷ l) = ap suc (length-alter f n l)
