-- Dominance said mark by mark: the numbers of marks are compared as numbers, and that is to compare each mark.
-- Assumes nothing.
use mathlib.Core.Path.{◌∙◌, ◌≡◌, ap, ap₂, refl, sym}
use Prim.Native.Nat.{◌%◌, ◌*◌, ◌+◌, ◌/◌, ◌<◌, ◌^◌, min, suc, zero, ℕ}
use native.Mathlib.Nat.{div-add-mod', div-div-eq-div-mul, div-one, pow-succ'}
use native.Mathlib.Omega.{arith}
use lib.Arith.{bin_ind}
use lib.Bits.{and_step, bit_and}
use Rattle.model.specs.Classes.{dominates, within}
use Rattle.model.specs.Claims.{Dominance}
use Rattle.model.proofs.OrderLaws.{and_half, and_odd, eq_within, within_eq}
use Rattle.model.proofs.Reflects.{Reflects, and_reflects, leb_reflects}

-- ---- binary digits
pub digit_zero : (n : ℕ) → n / 2 ^ 0 % 2 ≡ n % 2
digit_zero n = ap (λ (x : ℕ). x % 2) (div-one n)

pub digit_suc : (n i : ℕ) → n / 2 ^ suc i % 2 ≡ n / 2 / 2 ^ i % 2
digit_suc n i = ap (λ (x : ℕ). x % 2) (ap (λ (x : ℕ). n / x) (pow-succ' 2 i) ∙ sym (div-div-eq-div-mul n 2 (2 ^ i)))

-- each digit 1 of b is one of a
abbrev pub Among : ℕ → ℕ → Type 0
Among a b = (i : ℕ) → b / 2 ^ i % 2 ≡ 1 → a / 2 ^ i % 2 ≡ 1

and_among : (i a b : ℕ) → bit_and b a ≡ b → b / 2 ^ i % 2 ≡ 1 → a / 2 ^ i % 2 ≡ 1
and_among zero a b e h =
    let p : min (b % 2) (a % 2) ≡ b % 2 = sym (and_odd b a) ∙ ap (λ (x : ℕ). x % 2) e in
    let q : b % 2 ≡ 1 = sym (digit_zero b) ∙ h in
    let bound : a % 2 < 2 = omega arith in
    digit_zero a ∙ omega arith
and_among (suc i) a b e h =
    digit_suc a i ∙ and_among i (a / 2) (b / 2) (sym (and_half b a) ∙ ap (λ (x : ℕ). x / 2) e) (sym (digit_suc b i) ∙ h)

among_and : (b a : ℕ) → Among a b → bit_and b a ≡ b
among_and =
    bin_ind (λ (b : ℕ). (a : ℕ) → Among a b → bit_and b a ≡ b) (λ a h. refl)
    (λ b ih a h.
    and_step b a
    ∙ ap₂ (λ (x y : ℕ). x * 2 + y) (ih (a / 2) (λ i e. sym (digit_suc a i) ∙ h (suc i) (digit_suc b i ∙ e)))
    (lower (b % 2) (a % 2) (omega arith) (λ e. sym (digit_zero a) ∙ h 0 (digit_zero b ∙ e)))
    ∙ div-add-mod' b 2)
  where
    lower : (x y : ℕ) → x < 2 → (x ≡ 1 → y ≡ 1) → min x y ≡ x
    lower zero y h f = omega arith
    lower (suc zero) y h f = let q = f refl in omega arith
    lower (suc (suc x)) y h f = absurd (omega arith)

pub within_reflects : (a b : ℕ) → Reflects (within a b) (Among a b)
within_reflects a b = (λ e i. and_among i a b (within_eq a b e), λ h. eq_within a b (among_and b a h))

-- ---- classes
pub dominance : Dominance
unfolding dominates
dominance a b = and_reflects (leb_reflects b.level a.level) (within_reflects a.marks b.marks)
