-- Tests and the propositions that they decide: a test passes just where its proposition holds, for the ways in which tests are put together.
-- Assumes nothing.
use mathlib.Core.Path.{◌≡◌, ap, refl, subst}
use mathlib.Core.Logic.{◌↔◌, ◌⊎◌, inl, inr, ⊎_elim}
use mathlib.Core.Bool.{Bool, ◌&&◌, ◌||◌, false, false≢true, not, true}
use mathlib.Core.List.{List, [], ◌∷◌}
use Rattle.std.specs.Prelude.{Option, None, Some}
use Prim.Native.Nat.{◌<◌, ◌≤◌, ℕ}
use native.Mathlib.Omega.{arith}
use lib.Dec.{eqb, leb, ltb}
use borrow.Author.Tests.{eq-eqb, eqb-true, le-leb, leb-true, lt-ltb, ltb-true}
use Rattle.model.specs.declared.Class.{Class}
use Rattle.model.specs.Places.{any, present, sure, twice}
use Rattle.model.specs.Classes.{same}
use Rattle.model.specs.Conditions.{SomeOf, There, Twice}
use Rattle.model.proofs.Tests.{and-fst, and-snd, both, not-both, not-true, or_left, or_right}
use Rattle.model.proofs.OrderLaws.{same_eq, same_refl}
use Rattle.model.proofs.OptionLaws.{nothing_is}

-- the test b passes just where P holds
abbrev pub Reflects : Bool → Type 0 → Type 0
Reflects b P = (b ≡ true) ↔ P

-- for what `cc` draws from a path between different constructors
pub clash {ℓ} : {X : Type ℓ} → ◌≡◌ {A = ℕ} 0 1 → X
clash e = absurd (omega arith)

module _ {b : Bool} {P : Type 0} (r : Reflects b P) where
  -- in other words
  pub reworded : {Q : Type 0} → (P → Q) → (Q → P) → Reflects b Q
  reworded f g = (λ e. f (r.0 e), λ q. r.1 (g q))

  pub fails_where : ¬ P → b ≡ false
  fails_where h = go b refl
    where
      go : (x : Bool) → b ≡ x → x ≡ false
      go true e = absurd (h (r.0 e))
      go false e = refl

  pub fails_so : b ≡ false → ¬ P
  fails_so e p = not-both b (r.1 p) e

  -- what is decided by a test holds if it cannot fail to hold
  pub surely : ¬ (¬ P) → P
  surely h = go b refl
    where
      go : (x : Bool) → b ≡ x → P
      go true e = r.0 e
      go false e = absurd (h (fails_so e))

-- ---- nothing, and everything
pub never : {P : Type 0} → ¬ P → Reflects false P
never h = (λ e. absurd (false≢true e), λ p. absurd (h p))

pub always : {P : Type 0} → P → Reflects true P
always p = (λ e. p, λ q. refl)

-- ---- not, and, or
module _ {P : Type 0} where
  pub not_reflects : {b : Bool} → Reflects b P → Reflects (not b) (¬ P)
  not_reflects {b} r = (λ e. fails_so r (not-true b e), λ h. ap not (fails_where r h))

  module _ {a b : Bool} {Q : Type 0} (r : Reflects a P) (s : Reflects b Q) where
    pub and_reflects : Reflects (a && b) (P × Q)
    and_reflects = (λ e. (r.0 (and-fst a b e), s.0 (and-snd a b e)), λ h. both a b (r.1 h.0) (s.1 h.1))

    pub or_reflects : Reflects (a || b) (P ⊎ Q)
    or_reflects = (go a refl, ⊎_elim (λ p. or_left a b (r.1 p)) (λ q. or_right a b (s.1 q)))
      where
        go : (x : Bool) → a ≡ x → (x || b) ≡ true → P ⊎ Q
        go true p e = inl (r.0 p)
        go false p e = inr (s.0 e)

-- ---- lists, and what may be absent
module _ {A : Type 0} {p : A → Bool} {P : A → Type 0} (r : (a : A) → Reflects (p a) (P a)) where
  pub any_reflects : (l : List A) → Reflects (any p l) (SomeOf P l)
  any_reflects [] = never (λ h. h)
  any_reflects (a ∷ l) = or_reflects (r a) (any_reflects l)

  pub sure_reflects : (o : Option A) → Reflects (sure p o) (There P o)
  sure_reflects None = never (λ h. nothing_is h.1)
  sure_reflects (Some a) = reworded (r a) (λ h. (a, refl, h)) (λ h. let q : h.0 ≡ a = cc h.1 in subst P q h.2)

pub twice_reflects : {A : Type 0} {p : A → A → Bool} {R : A → A → Type 0} → ((a b : A) → Reflects (p a b) (R a b))
    → (l : List A) → Reflects (twice p l) (Twice R l)
twice_reflects r [] = never (λ h. h)
twice_reflects r (a ∷ l) = or_reflects (any_reflects (r a) l) (twice_reflects r l)

pub present_reflects : {A : Type 0} (o : Option A) → Reflects (present o) (There (λ (a : A). Unit {0}) o)
present_reflects None = never (λ h. nothing_is h.1)
present_reflects (Some a) = always (a, refl, tt)

-- ---- numbers and classes
pub eqb_reflects : (m n : ℕ) → Reflects (eqb m n) (m ≡ n)
eqb_reflects m n = (eqb-true m n, eq-eqb m n)

pub leb_reflects : (m n : ℕ) → Reflects (leb m n) (m ≤ n)
leb_reflects m n = (leb-true m n, le-leb m n)

pub ltb_reflects : (m n : ℕ) → Reflects (ltb m n) (m < n)
ltb_reflects m n = (ltb-true m n, lt-ltb m n)

pub same_reflects : (a b : Class) → Reflects (same a b) (a ≡ b)
same_reflects a b = (same_eq a b, λ e. rw e (same_refl b))
