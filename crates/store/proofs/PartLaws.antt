-- Lists of parts, packed and unpacked: what holds of each part holds of the list. For parts of any type and any number of them.
-- Assumes nothing.
use mathlib.Core.Path.{◌∙◌, ◌≡◌, ap, ap₂, refl, sym}
use mathlib.Core.Bool.{Bool, ◌||◌, false, false≢true, not, true}
use mathlib.Core.List.{List, [], ◌∷◌, map}
use Rattle.std.specs.Prelude.{Option, None, Some}
use Prim.Native.Nat.{suc, zero, ℕ}
use lib.ListN.{length, replicate}
use Rattle.model.specs.Places.{Places, all, all_in, when}
use Rattle.model.proofs.Tests.{and-fst, and-snd, both}
use Rattle.model.proofs.Every.{EveryIn}
use Rattle.model.proofs.AllLaws.{all_in-more, unless}

-- the other of two tests
pub other : (t s : Bool) → (t || s) ≡ true → t ≡ false → s ≡ true
other true s e f = absurd (false≢true (sym f))
other false s e f = e

-- ---- one part, with the mark t that says whether it is there
module _ {A B : Type 0} (pk : Option A → B) where
  pub packs_back : (t : Bool) (a : A) (b : B) → (t ≡ true → pk (Some a) ≡ b) → (t ≡ false → pk None ≡ b) → pk (when t a) ≡ b
  packs_back true a b f g = f refl
  packs_back false a b f g = g refl

  -- what packs back and is not there is the constant
  pub away_is : (t : Bool) (a : A) (b : B) → pk (when t a) ≡ b → not t ≡ true → b ≡ pk None
  away_is true a b e h = absurd (false≢true h)
  away_is false a b e h = sym e

-- ---- tests of all
module _ {A : Type 0} (p : A → Bool) where
  -- only d passes
  pub all_one : (d : A) → ((a : A) → p a ≡ true → a ≡ d) → (l : List A) → all p l ≡ true → l ≡ replicate (length l) d
  all_one d h [] e = refl
  all_one d h (a ∷ l) e = ap₂ (λ (x : A) (r : List A). x ∷ r) (h a (and-fst (p a) (all p l) e)) (all_one d h l (and-snd (p a) (all p l) e))

  -- only d passes both tests
  pub all_both : (q : A → Bool) (d : A) (n : ℕ) → ((a : A) → p a ≡ true → q a ≡ true → a ≡ d) → (l : List A) → all p l ≡ true → all q l ≡ true → length l ≡ n
      → l ≡ replicate n d
  all_both q d n h l e f k = go l e f ∙ ap (λ (j : ℕ). replicate j d) k
    where
      go : (l : List A) → all p l ≡ true → all q l ≡ true → l ≡ replicate (length l) d
      go [] e f = refl
      go (a ∷ l) e f =
          ap₂ (λ (x : A) (r : List A). x ∷ r) (h a (and-fst (p a) (all p l) e) (and-fst (q a) (all q l) f)) (go l (and-snd (p a) (all p l) e) (and-snd (q a) (all q l) f))

  pub all_replicate : (d : A) (n : ℕ) → p d ≡ true → all p (replicate n d) ≡ true
  all_replicate d zero e = refl
  all_replicate d (suc n) e = both (p d) (all p (replicate n d)) e (all_replicate d n e)

-- ---- there and back
module _ {A B : Type 0} (f : A → B) (g : B → A) where
  pub map_back : ((a : A) → g (f a) ≡ a) → (l : List A) → map g (map f l) ≡ l
  map_back h [] = refl
  map_back h (a ∷ l) = ap₂ (λ (x : A) (r : List A). x ∷ r) (h a) (map_back h l)

  pub all_back : (p : A → Bool) → ((a : A) → p a ≡ true → g (f a) ≡ a) → (l : List A) → all p l ≡ true → map g (map f l) ≡ l
  all_back p h [] e = refl
  all_back p h (a ∷ l) e = ap₂ (λ (x : A) (r : List A). x ∷ r) (h a (and-fst (p a) (all p l) e)) (all_back p h l (and-snd (p a) (all p l) e))

pub in_back : {A B : Type 0} (pk : Option A → B) (un : B → Option A) (p : A → Bool) → un (pk None) ≡ None → ((a : A) → p a ≡ true → un (pk (Some a)) ≡ Some a)
    → (l : Places A) → all_in p l ≡ true → map un (map pk l) ≡ l
in_back pk un p z h [] e = refl
in_back pk un p z h (None ∷ l) e = ap₂ (λ x r. x ∷ r) z (in_back pk un p z h l e)
in_back pk un p z h (Some a ∷ l) e = ap₂ (λ x r. x ∷ r) (h a (and-fst (p a) (all_in p l) e)) (in_back pk un p z h l (and-snd (p a) (all_in p l) e))

-- ---- a test of the structs, and one of what they stand for
module _ {A B : Type 0} where
  -- what passes is unpacked into what passes
  pub unpacked-all : (p : B → Bool) (q : A → Bool) (un : B → Option A) → ((b : B) → p b ≡ true → unless q (un b) ≡ true)
      → (l : List B) → all p l ≡ true → all_in q (map un l) ≡ true
  unpacked-all p q un h [] e = refl
  unpacked-all p q un h (b ∷ l) e = all_in-more q (un b) (map un l) (h b (and-fst (p b) (all p l) e)) (unpacked-all p q un h l (and-snd (p b) (all p l) e))

  -- what has the property P is packed into what passes, and so is what is absent
  pub packed_all : (P : A → Type 0) (p : B → Bool) (pk : Option A → B) → p (pk None) ≡ true → ((a : A) → P a → p (pk (Some a)) ≡ true)
      → (l : Places A) → EveryIn P l → all p (map pk l) ≡ true
  packed_all P p pk z h [] e = refl
  packed_all P p pk z h (None ∷ l) e = both (p (pk None)) (all p (map pk l)) z (packed_all P p pk z h l e)
  packed_all P p pk z h (Some a ∷ l) e = both (p (pk (Some a))) (all p (map pk l)) (h a e.0) (packed_all P p pk z h l e.1)
