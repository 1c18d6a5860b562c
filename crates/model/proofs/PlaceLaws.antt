-- Laws of places and lists: a function after a function, and a part changed under a view.
-- Assumes nothing.
use mathlib.Core.Path.{◌∙◌, ◌≡◌, ap, ap₂, refl, sym}
use mathlib.Core.Bool.{Bool, ◌&&◌, false, true}
use mathlib.Core.List.{List, [], ◌++◌, ◌∷◌}
use Rattle.std.specs.Prelude.{Option, None, Some}
use Prim.Native.Nat.{suc, zero, ℕ}
use Rattle.model.specs.Places.{Places, alter, and_then, at, emptied, gather, map_o, on_places, present, push, when}

-- ---- one after another
pub when_then : {A B : Type 0} (a b : Bool) (x : A) (z : B) (g : A → Option B) → g x ≡ when b z → and_then (when a x) g ≡ when (a && b) z
when_then true b x z g e = e
when_then false b x z g e = refl

pub gather-push : {A B : Type 0} (f : A → Option B) (o : Option A) (l : List A) → gather f (push o l) ≡ push (and_then o f) (gather f l)
gather-push f None l = refl
gather-push f (Some a) l = refl

pub gather_append : {A B : Type 0} (f : A → Option B) (l m : List A) → gather f (l ++ m) ≡ gather f l ++ gather f m
gather_append f [] m = refl
gather_append f (a ∷ l) m = ap (push (f a)) (gather_append f l m) ∙ push-append (f a) (gather f l) (gather f m)
  where
    push-append : {B : Type 0} (o : Option B) (l m : List B) → push o (l ++ m) ≡ push o l ++ m
    push-append None l m = refl
    push-append (Some b) l m = refl

module _ {A B C : Type 0} (f : A → Option B) (g : B → Option C) (h : A → Option C) (each : (a : A) → and_then (f a) g ≡ h a) where
  pub gather-two : (l : List A) → gather g (gather f l) ≡ gather h l
  gather-two [] = refl
  gather-two (a ∷ l) = gather-push g (f a) (gather f l) ∙ ap₂ push (each a) (gather-two l)

  pub on_places-two : (l : Places A) → on_places g (on_places f l) ≡ on_places h l
  on_places-two [] = refl
  on_places-two (None ∷ l) = ap (λ (m : Places C). None ∷ m) (on_places-two l)
  on_places-two (Some a ∷ l) = ap₂ (λ (o : Option C) (m : Places C). o ∷ m) (each a) (on_places-two l)

pub at-on_places : {A B : Type 0} (f : A → Option B) (n : ℕ) (l : Places A) → at n (on_places f l) ≡ and_then (at n l) f
at-on_places f n [] = refl
at-on_places f zero (o ∷ l) = refl
at-on_places f (suc n) (o ∷ l) = at-on_places f n l

-- what is there after a step was there before it
pub present_then : {A B : Type 0} (o : Option A) (f : A → Option B) → (present o && present (and_then o f)) ≡ present (and_then o f)
present_then None f = refl
present_then (Some a) f = refl

module _ {A : Type 0} where
  pub emptied-on_places : (f : A → Option A) (l : Places A) → emptied (on_places f l) ≡ emptied l
  emptied-on_places f [] = refl
  emptied-on_places f (o ∷ l) = ap (λ (m : Places A). None ∷ m) (emptied-on_places f l)

  pub on_places-emptied : (f : A → Option A) (l : Places A) → on_places f (emptied l) ≡ emptied l
  on_places-emptied f [] = refl
  on_places-emptied f (o ∷ l) = ap (λ (m : Places A). None ∷ m) (on_places-emptied f l)

  pub emptied-emptied : (l : Places A) → emptied (emptied l) ≡ emptied l
  emptied-emptied [] = refl
  emptied-emptied (o ∷ l) = ap (λ (m : Places A). None ∷ m) (emptied-emptied l)

  pub emptied-alter : (f : A → A) (n : ℕ) (l : Places A) → emptied (alter n (map_o f) l) ≡ emptied l
  emptied-alter f n [] = refl
  emptied-alter f zero (o ∷ l) = refl
  emptied-alter f (suc n) (o ∷ l) = ap (λ (m : Places A). None ∷ m) (emptied-alter f n l)

-- ---- a part changed by g, seen through v
module _ {A : Type 0} (v : A → Option A) (g : A → A) where
  -- what is seen of the changed part is told by what was seen of it
  pub alter_steady : ((a : A) → and_then (v a) v ≡ v a) → ((a : A) → v (g a) ≡ and_then (v a) (λ (x : A). v (g x)))
      → (n : ℕ) (l : Places A) → on_places v (alter n (map_o g) l) ≡ on_places v (alter n (map_o g) (on_places v l))
  alter_steady again each n [] = refl
  alter_steady again each zero (o ∷ l) =
      ap₂ (λ (x : Option A) (m : Places A). x ∷ m) (one o) (sym (on_places-two v v v again l))
    where
      inside : (o : Option A) → and_then o (λ (x : A). v (g x)) ≡ and_then (map_o g o) v
      inside None = refl
      inside (Some a) = refl

      one : (o : Option A) → and_then (map_o g o) v ≡ and_then (map_o g (and_then o v)) v
      one None = refl
      one (Some a) = each a ∙ inside (v a)
  alter_steady again each (suc n) (o ∷ l) =
      ap₂ (λ (x : Option A) (m : Places A). x ∷ m) (one o) (alter_steady again each n l)
    where
      one : (o : Option A) → and_then o v ≡ and_then (and_then o v) v
      one None = refl
      one (Some a) = sym (again a)

  -- the change is not seen
  pub alter_silent : ((a : A) → v (g a) ≡ v a) → (n : ℕ) (l : Places A) → on_places v (alter n (map_o g) l) ≡ on_places v l
  alter_silent each n [] = refl
  alter_silent each zero (None ∷ l) = refl
  alter_silent each zero (Some a ∷ l) = ap (λ (x : Option A). x ∷ on_places v l) (each a)
  alter_silent each (suc n) (o ∷ l) = ap (λ (m : Places A). and_then o v ∷ m) (alter_silent each n l)
