-- What an accepted command is, in the affirmative: no refusal's row holds just where the command is good.
-- Assumes nothing.
use mathlib.Core.Path.{◌≡◌, refl, subst}
use mathlib.Core.Logic.{◌↔◌, inl, inr, ⊎_elim}
use mathlib.Core.List.{List, [], ◌∷◌}
use Rattle.std.specs.Prelude.{Option, Some}
use Prim.Native.Nat.{◌<◌, ◌≤◌, suc, zero, ℕ}
use native.Mathlib.Omega.{arith}
use lib.ListN.{length}
use Rattle.model.specs.declared.Class.{Class}
use Rattle.model.specs.declared.Value.{Value}
use Rattle.model.specs.Places.{nth}
use Rattle.model.specs.Parts.{Column, Row, Table}
use Rattle.model.specs.Commands.{Action, Change, Condition, Given, New, delete, insert, select, update}
use Rattle.model.specs.Conditions.{Brings, Every, Good, GoodDelete, GoodInsert, GoodSelect, GoodUpdate, NoneHolds, SomeOf, Takes, TakesNot, There, Visible, refusal_rows}
use Rattle.model.specs.Claims.{AcceptedGood}
use Rattle.model.proofs.OptionLaws.{nothing_is}
use Rattle.model.proofs.Reflects.{surely}
use Rattle.model.proofs.ValueTests.{fits_reflects}
use Rattle.model.proofs.CheckTests.{allows_reflects, berth_reflects, names_reflects, own_reflects, visible_reflects}
use Rattle.model.proofs.TableLaws.{accepted_exactly}

infixr 5 ◌next◌
-- a fact, and the facts behind it
abbrev ◌next◌ : {P Q : Type 0} → P → Q → P × Q
p next q = (p, q)

-- what fits in the room does not outgrow it
fits_in : (m n : ℕ) → n ≤ m → ¬ (m < n)
fits_in m n h k = omega arith

-- ---- lists, and what may be absent
module _ {A : Type 0} where
  -- an element that has neither P nor R has Q
  every_but : {P Q R : A → Type 0} → ((a : A) → (¬ P a) → (¬ R a) → Q a) → (l : List A) → ¬ SomeOf P l → ¬ SomeOf R l → Every Q l
  every_but f [] h k = tt
  every_but f (a ∷ l) h k = (f a (λ p. h (inl p)) (λ r. k (inl r)), every_but f l (λ s. h (inr s)) (λ s. k (inr s)))

  every_not : {P Q : A → Type 0} → ((a : A) → (¬ P a) → Q a) → (l : List A) → ¬ SomeOf P l → Every Q l
  every_not f l h = every_but (λ a p r. f a p) l h h

  not_some : {P Q : A → Type 0} → ((a : A) → Q a → ¬ P a) → (l : List A) → Every Q l → ¬ SomeOf P l
  not_some f [] q s = s
  not_some f (a ∷ l) q s = ⊎_elim (λ p. f a q.0 p) (not_some f l q.1) s

  module _ {P : A → Type 0} {o : Option A} where
    there_but : ((a : A) → ¬ (¬ P a) → P a) → There (λ (a : A). Unit {0}) o → ¬ There (λ (a : A). ¬ P a) o → There P o
    there_but stable h k = (h.0, h.1, stable h.0 (λ n. k (h.0, h.1, n)))

    there-not : There P o → ¬ There (λ (a : A). ¬ P a) o
    there-not h k = let q : h.0 ≡ k.0 = cc (h.1, k.1) in k.2 (subst P q h.2)

    not_there : ¬ There P o → (a : A) → o ≡ Some a → ¬ P a
    not_there h a e p = h (a, e, p)

  nth-there : (l : List A) (i : ℕ) → ¬ (length l ≤ i) → There (λ (a : A). Unit {0}) (nth i l)
  nth-there [] i h = absurd (h (omega arith))
  nth-there (a ∷ l) zero h = (a, refl, tt)
  nth-there (a ∷ l) (suc i) h = nth-there l i (λ k. h (omega arith))

  nth_below : (l : List A) (i : ℕ) (a : A) → nth i l ≡ Some a → ¬ (length l ≤ i)
  nth_below [] i a e h = nothing_is e
  nth_below (a ∷ l) zero x e h = omega arith
  nth_below (a ∷ l) (suc i) x e h = nth_below l i x e (omega arith)

-- ---- verb by verb
module _ (w room : ℕ) (c : Class) (t : Table) where
  takes : (j : ℕ) (v : Value) → ¬ (¬ Visible t j) → ¬ TakesNot t j v → Takes t j v
  takes j v n m = there_but (λ (k : Column). surely (fits_reflects k.kind v)) (surely (visible_reflects t j) n) m

  takes-brought : (j : ℕ) (x : New) → ¬ (¬ Visible t j) → ¬ ((v : Value) × Brings x v × TakesNot t j v) → (v : Value) → Brings x v → Takes t j v
  takes-brought j x n m v k = takes j v n (λ z. m (v, k, z))

  -- no5 says that the row of reply 5 does not hold
  good_insert : (gs : List Given) → NoneHolds (refusal_rows w room c (insert gs) t) ↔ GoodInsert w room c t gs
  good_insert gs = (
    λ (no5, (no6, (no8, (no9, (no10, (no11, z)))))). record {
      once = no5;
      seen = every_not (λ (g : Given). surely (visible_reflects t g.column)) gs no6;
      whole = λ j k. surely (names_reflects gs j) (λ n. no8 (j, k, n));
      fit = every_but (λ (g : Given). takes g.column g.field.value) gs no6 no9;
      berth = surely (berth_reflects c t.berths) no10;
      free = no11;
    },
    λ h. h.once
        next not_some (λ (g : Given) k n. n k) gs h.seen
        next (λ k. k.2 (h.whole k.0 k.1))
        next not_some (λ (g : Given). there-not) gs h.fit
        next (λ n. n h.berth)
        next h.free
        next tt,
  )

  good_delete : (is : List ℕ) → NoneHolds (refusal_rows w room c (delete is) t) ↔ GoodDelete w room c t is
  good_delete is = (
    λ (no5, (no7, (no12, z))). record {
      once = no5;
      own = every_but (λ (i : ℕ) n. there_but (λ (r : Row). surely (own_reflects c r)) (nth-there t.rows i n)) is no7 no12;
    },
    λ h. h.once
        next not_some (λ (i : ℕ) k. nth_below t.rows i k.0 k.1) is h.own
        next not_some (λ (i : ℕ). there-not) is h.own
        next tt,
  )

  good_update : (es : List Change) → NoneHolds (refusal_rows w room c (update es) t) ↔ GoodUpdate w room c t es
  good_update es = (
    λ (no5, (no6, (no7, (no9, (no12, (no13, z)))))). record {
      once = no5;
      seen = every_not (λ (e : Change). surely (visible_reflects t e.column)) es no6;
      fit = every_but (λ (e : Change). takes-brought e.column e.new) es no6 no9;
      allowed = every_but (λ (e : Change) n. there_but (λ (r : Row). surely (allows_reflects c e r)) (nth-there t.rows e.row n)) es no7 no12;
      covered = every_not (λ (e : Change). not_there) es no13;
    },
    λ h. h.once
        next not_some (λ (e : Change) k n. n k) es h.seen
        next not_some (λ (e : Change) k. nth_below t.rows e.row k.0 k.1) es h.allowed
        next not_some (λ (e : Change) f k. there-not (f k.0 k.1) k.2) es h.fit
        next not_some (λ (e : Change). there-not) es h.allowed
        next not_some (λ (e : Change) f k. f k.0 k.1 k.2) es h.covered
        next tt,
  )

  good_select : (q : Option Condition) → NoneHolds (refusal_rows w room c (select q) t) ↔ GoodSelect w room c t q
  good_select q = (
    λ (no6, (no9, (no14, z))). record {
      seen = λ x e. surely (visible_reflects t x.column) (λ n. no6 (x, e, n));
      fit = λ x e. takes x.column x.value (λ n. no6 (x, e, n)) (λ n. no9 (x, e, n));
      roomy = omega arith;
    },
    λ h. (λ k. k.2 (h.seen k.0 k.1))
        next (λ k. there-not (h.fit k.0 k.1) k.2)
        next fits_in room _ h.roomy
        next tt,
  )

  good_rows : (a : Action) → NoneHolds (refusal_rows w room c a t) ↔ Good w room c t a
  good_rows (insert gs) = good_insert gs
  good_rows (delete is) = good_delete is
  good_rows (update es) = good_update es
  good_rows (select q) = good_select q

pub accepted_good : AcceptedGood
accepted_good w room c a t =
    let (down, up) = accepted_exactly w room c a t in
    let (good, free) = good_rows w room c t a in
    (λ e. let (p, q) = down e in (p, good q), λ h. up (h.0, free h.1))
