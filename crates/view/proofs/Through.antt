-- A step of the definition on parts of any type, between their unpacking and their packing.
-- Assumes nothing.
use mathlib.Core.Path.{◌∙◌, ◌≡◌, ap, ap₂, refl}
use mathlib.Core.Bool.{Bool, false, true}
use mathlib.Core.List.{List, [], ◌∷◌, map}
use Rattle.std.specs.Prelude.{Option, None, Some}
use Prim.Native.Nat.{suc, zero, ℕ}
use native.Mathlib.Omega.{arith}
use lib.ListN.{length}
use Rattle.model.specs.Places.{Places, and_then, emptied, gather, map_o, nones, on_places, push, when}

-- ---- an array of parts
pub through : {A B C D : Type 0} (un : C → Option A) (pk : Option B → D) (g : A → Option B) (l : List C)
    → map pk (on_places g (map un l)) ≡ map (λ (x : C). pk (and_then (un x) g)) l
through un pk g [] = refl
through un pk g (x ∷ l) = ap (λ (r : List _). pk (and_then (un x) g) ∷ r) (through un pk g l)

pub emptied-nones : {A C : Type 0} (un : C → Option A) (n : ℕ) (l : List C) → length l ≡ n → emptied (map un l) ≡ nones n
emptied-nones un zero [] h = refl
emptied-nones un zero (x ∷ l) h = absurd (omega arith)
emptied-nones un (suc n) [] h = absurd (omega arith)
emptied-nones un (suc n) (x ∷ l) h = ap (λ (r : Places _). None ∷ r) (emptied-nones un n l (omega arith))

-- ---- a list of parts, of which some are kept
when-map : {A B : Type 0} (f : A → B) (p : Bool) (a : A) (b : B) → f a ≡ b → map_o f (when p a) ≡ when p b
when-map f true a b e = ap Some e
when-map f false a b e = refl

push-map : {A B : Type 0} (f : A → B) (o : Option A) (l : List A) → map f (push o l) ≡ push (map_o f o) (map f l)
push-map f None l = refl
push-map f (Some a) l = refl

-- each is kept where the test p passes, and f of it is then packed into h of it
pub kept-through : {A B C D : Type 0} (un : C → A) (pk : B → D) (p : C → Bool) (f : A → B) (h : C → D) → ((x : C) → pk (f (un x)) ≡ h x)
    → (g : A → Option B) → ((x : C) → g (un x) ≡ when (p x) (f (un x))) → (l : List C) → map pk (gather g (map un l)) ≡ gather (λ (x : C). when (p x) (h x)) l
kept-through un pk p f h e g k [] = refl
kept-through un pk p f h e g k (x ∷ l) =
    push-map pk (g (un x)) (gather g (map un l))
    ∙ ap₂ push (ap (map_o pk) (k x) ∙ when-map pk (p x) (f (un x)) (h x) (e x)) (kept-through un pk p f h e g k l)
