-- The laws of dominance: reflexive, transitive, antisymmetric, and the law of the common part. No number of marks is fixed.
-- Assumes nothing.
use mathlib.Core.Path.{◌∙◌, ◌≡◌, ap, ap₂, refl, sym}
use mathlib.Core.Bool.{◌&&◌, true}
use Prim.Native.Nat.{◌%◌, ◌*◌, ◌+◌, ◌/◌, ◌<◌, ◌≤◌, min, ℕ}
use native.Mathlib.Nat.{le_antisymm, le_refl, min_comm}
use native.Mathlib.Omega.{arith}
use lib.Arith.{bin_ind, digits_div, digits_mod}
use lib.Bits.{and_comm, and_self, and_step, bit_and}
use lib.Dec.{eqb, eqb_refl, eqb→eq, leb, leb→le, le→leb}
use Rattle.model.specs.declared.Class.{Class}
use Rattle.model.specs.Classes.{common, dominates, same, within}
use Rattle.model.proofs.Tests.{and-fst, and-snd, both, of_T, same_test, to_T}

min_assoc : (x y z : ℕ) → min (min x y) z ≡ min x (min y z)
min_assoc x y z = omega arith

low_digit : (a b : ℕ) → min (a % 2) (b % 2) < 2
low_digit a b = omega arith

pub and_half : (a b : ℕ) → bit_and a b / 2 ≡ bit_and (a / 2) (b / 2)
and_half a b = ap (λ (x : ℕ). x / 2) (and_step a b) ∙ digits_div (bit_and (a / 2) (b / 2)) (low_digit a b)

pub and_odd : (a b : ℕ) → bit_and a b % 2 ≡ min (a % 2) (b % 2)
and_odd a b = ap (λ (x : ℕ). x % 2) (and_step a b) ∙ digits_mod (bit_and (a / 2) (b / 2)) (low_digit a b)

-- (lib.Bits has no associativity)
pub and_assoc : (a b c : ℕ) → bit_and (bit_and a b) c ≡ bit_and a (bit_and b c)
and_assoc =
    bin_ind (λ (n : ℕ). (b c : ℕ) → bit_and (bit_and n b) c ≡ bit_and n (bit_and b c)) (λ b c. refl)
    (λ n ih b c.
    and_step (bit_and n b) c
    ∙ ap₂ (λ (x y : ℕ). x * 2 + y)
    (ap (λ (x : ℕ). bit_and x (c / 2)) (and_half n b) ∙ ih (b / 2) (c / 2) ∙ ap (λ (x : ℕ). bit_and (n / 2) x) (sym (and_half b c)))
    (ap (λ (x : ℕ). min x (c % 2)) (and_odd n b) ∙ min_assoc (n % 2) (b % 2) (c % 2) ∙ ap (λ (x : ℕ). min (n % 2) x) (sym (and_odd b c)))
    ∙ sym (and_step n (bit_and b c)))

-- the tests, as equations
pub within_eq : (a b : ℕ) → within a b ≡ true → bit_and b a ≡ b
unfolding within
within_eq a b e = eqb→eq (bit_and b a) b (to_T _ e)

pub eq_within : (a b : ℕ) → bit_and b a ≡ b → within a b ≡ true
unfolding within
eq_within a b e = of_T _ (rw e (eqb_refl b))

leb_le : (m n : ℕ) → leb m n ≡ true → m ≤ n
leb_le m n e = leb→le m n (to_T _ e)

le_leb : (m n : ℕ) → m ≤ n → leb m n ≡ true
le_leb m n h = of_T _ (le→leb m n h)

module _ (a b : Class) where
  higher : dominates a b ≡ true → b.level ≤ a.level
  unfolding dominates
  higher e = leb_le b.level a.level (and-fst _ _ e)

  wider : dominates a b ≡ true → bit_and b.marks a.marks ≡ b.marks
  unfolding dominates
  wider e = within_eq a.marks b.marks (and-snd (leb b.level a.level) _ e)

  dominates_by : b.level ≤ a.level → bit_and b.marks a.marks ≡ b.marks → dominates a b ≡ true
  unfolding dominates
  dominates_by h e = both _ _ (le_leb b.level a.level h) (eq_within a.marks b.marks e)

-- ---- the laws
pub dominates_refl : (a : Class) → dominates a a ≡ true
dominates_refl a = dominates_by a a (le_refl a.level) (and_self a.marks)

pub dominates_trans : (a b c : Class) → dominates a b ≡ true → dominates b c ≡ true → dominates a c ≡ true
dominates_trans a b c p q =
    let h = higher a b p in
    let k = higher b c q in
    dominates_by a c (omega arith)
    (ap (λ (x : ℕ). bit_and x a.marks) (sym (wider b c q))
    ∙ and_assoc c.marks b.marks a.marks
    ∙ ap (λ (x : ℕ). bit_and c.marks x) (wider a b p)
    ∙ wider b c q)

pub dominates_antisym : (a b : Class) → dominates a b ≡ true → dominates b a ≡ true → a ≡ b
dominates_antisym a b p q =
    λ i. record {
      level = le_antisymm (higher b a q) (higher a b p) i;
      marks = (sym (wider b a q) ∙ and_comm a.marks b.marks ∙ wider a b p) i;
    }

eqb_eq : (m n : ℕ) → eqb m n ≡ true → m ≡ n
eqb_eq m n e = eqb→eq m n (to_T (eqb m n) e)

pub same_eq : (a b : Class) → same a b ≡ true → a ≡ b
unfolding same
same_eq a b e =
    λ i. record {
      level = eqb_eq a.level b.level (and-fst (eqb a.level b.level) (eqb a.marks b.marks) e) i;
      marks = eqb_eq a.marks b.marks (and-snd (eqb a.level b.level) (eqb a.marks b.marks) e) i;
    }

pub same_refl : (a : Class) → same a a ≡ true
unfolding same
same_refl a = both (eqb a.level a.level) (eqb a.marks a.marks) (of_T (eqb a.level a.level) (eqb_refl a.level)) (of_T (eqb a.marks a.marks) (eqb_refl a.marks))

-- x's digits lie in those of a and of b just where they lie in both
absorb : (a b : ℕ) → bit_and (bit_and a b) a ≡ bit_and a b
absorb a b = and_comm (bit_and a b) a ∙ sym (and_assoc a a b) ∙ ap (λ (z : ℕ). bit_and z b) (and_self a)

in_left : (x a b : ℕ) → bit_and x (bit_and a b) ≡ x → bit_and x a ≡ x
in_left x a b e = ap (λ (z : ℕ). bit_and z a) (sym e) ∙ and_assoc x (bit_and a b) a ∙ ap (λ (z : ℕ). bit_and x z) (absorb a b) ∙ e

in_right : (x a b : ℕ) → bit_and x (bit_and a b) ≡ x → bit_and x b ≡ x
in_right x a b e = in_left x b a (ap (λ (z : ℕ). bit_and x z) (and_comm b a) ∙ e)

in_both : (x a b : ℕ) → bit_and x a ≡ x → bit_and x b ≡ x → bit_and x (bit_and a b) ≡ x
in_both x a b p q = sym (and_assoc x a b) ∙ ap (λ (z : ℕ). bit_and z b) p ∙ q

-- a class is dominated by the common part of two just where it is by both
pub dominates-common : (a b x : Class) → dominates (common a b) x ≡ (dominates a x && dominates b x)
unfolding common
dominates-common a b x = same_test (dominates (common a b) x) (dominates a x && dominates b x) down up
  where
    down : dominates (common a b) x ≡ true → (dominates a x && dominates b x) ≡ true
    down e =
        let h = higher (common a b) x e in
        let w = wider (common a b) x e in
        both (dominates a x) (dominates b x)
        (dominates_by a x (omega arith) (in_left x.marks a.marks b.marks w))
        (dominates_by b x (omega arith) (in_right x.marks a.marks b.marks w))

    up : (dominates a x && dominates b x) ≡ true → dominates (common a b) x ≡ true
    up e =
        let p = and-fst (dominates a x) (dominates b x) e in
        let q = and-snd (dominates a x) (dominates b x) e in
        let h = higher a x p in
        let k = higher b x q in
        dominates_by (common a b) x (omega arith) (in_both x.marks a.marks b.marks (wider a x p) (wider b x q))

-- the common part with a class that is dominated is that class
pub common_below : (a b : Class) → dominates a b ≡ true → common a b ≡ b
unfolding common
common_below a b p =
    λ i. record {
      level = min_level i;
      marks = (and_comm a.marks b.marks ∙ wider a b p) i;
    }
  where
    min_level : min a.level b.level ≡ b.level
    min_level = let h = higher a b p in omega arith

pub common_comm : (a b : Class) → common a b ≡ common b a
unfolding common
common_comm a b =
    λ i. record {
      level = min_comm a.level b.level i;
      marks = and_comm a.marks b.marks i;
    }
