-- Dominance as a mask test, for any number k of marks: the marks of b are among those of a where b and not a is zero.
-- (lib.Bits has no law of a complement within k digits.)
-- Assumes nothing.
use mathlib.Core.Path.{◌≡◌, sym}
use mathlib.Core.Bool.{true, false}
use Prim.Native.Nat.{ℕ, zero, suc, ◌+◌, ◌-◌, ◌*◌, ◌/◌, ◌%◌, ◌^◌, ◌≤◌, ◌<◌, min}
use native.Mathlib.Omega.{arith}
use lib.Dec.{eqb}
use lib.Bits.{bit_and, and_step}
use borrow.Author.Tests.{eqb-true, eq-eqb, le-leb, lt-leb}
use Rattle.model.specs.declared.Class.{Class}
use Rattle.model.specs.Classes.{dominates, within}
use Rattle.model.proofs.OrderLaws.{within_eq, eq_within}
use Rattle.model.proofs.Tests.{same_test}

half_not : (p a : ℕ) → a < 2 * p → (2 * p - 1 - a) / 2 ≡ p - 1 - a / 2
half_not p a h = omega arith

odd_not : (p a : ℕ) → a < 2 * p → (2 * p - 1 - a) % 2 ≡ 1 - a % 2
odd_not p a h = omega arith

low_split : (a b : ℕ) → min (b % 2) (a % 2) + min (b % 2) (1 - a % 2) ≡ b % 2
low_split a b = omega arith

join-split : (b x y m n h l : ℕ) → x ≡ h * 2 + m → y ≡ l * 2 + n → h + l ≡ b / 2 → m + n ≡ b % 2 → x + y ≡ b
join-split b x y m n h l p q r s = omega arith

-- the digits of b that are in a, and those that are not, make b
pub and_split : (k a b : ℕ) → a < 2 ^ k → b < 2 ^ k → bit_and b a + bit_and b (2 ^ k - 1 - a) ≡ b
and_split zero a b ha hb =
    let e : b ≡ 0 = omega arith in
    rw e
and_split (suc k) a b ha hb =
    let h : a < 2 * 2 ^ k = omega arith in
    let two : 2 ^ suc k ≡ 2 * 2 ^ k = omega arith in
    join-split b (bit_and b a) (bit_and b (2 ^ suc k - 1 - a)) (min (b % 2) (a % 2)) (min (b % 2) (1 - a % 2)) (bit_and (b / 2) (a / 2)) (bit_and (b / 2) (2 ^ k - 1 - a / 2))
    (and_step b a) (rw (two, and_step b (2 * 2 ^ k - 1 - a), half_not (2 ^ k) a h, odd_not (2 ^ k) a h))
    (and_split k (a / 2) (b / 2) (omega arith) (omega arith)) (low_split a b)

-- the mask test is the test that the marks of b are among those of a
pub mask_within : (k a b : ℕ) → a < 2 ^ k → b < 2 ^ k → eqb (bit_and b (2 ^ k - 1 - a)) 0 ≡ within a b
mask_within k a b ha hb = same_test (eqb (bit_and b (2 ^ k - 1 - a)) 0) (within a b) into back
  where
    into : eqb (bit_and b (2 ^ k - 1 - a)) 0 ≡ true → within a b ≡ true
    into e =
        let z = eqb-true (bit_and b (2 ^ k - 1 - a)) 0 e in
        let y = and_split k a b ha hb in
        eq_within a b (omega arith)

    back : within a b ≡ true → eqb (bit_and b (2 ^ k - 1 - a)) 0 ≡ true
    back e =
        let w = within_eq a b e in
        let y = and_split k a b ha hb in
        eq-eqb (bit_and b (2 ^ k - 1 - a)) 0 (omega arith)

-- ---- what a program's test of levels, and then its mask test, say
pub dominates_low : (a b : Class) → a.level < b.level → dominates a b ≡ false
unfolding dominates
dominates_low a b h = rw (lt-leb b.level a.level h)

dominates_mask : (k : ℕ) (a b : Class) → a.marks < 2 ^ k → b.marks < 2 ^ k → b.level ≤ a.level
    → dominates a b ≡ eqb (bit_and b.marks (2 ^ k - 1 - a.marks)) 0
unfolding dominates
dominates_mask k a b ha hb h = rw (le-leb b.level a.level h) (sym (mask_within k a.marks b.marks ha hb))

-- with the 32 marks of a u32
pub dominates_32 : (a b : Class) → a.marks < 2 ^ 32 → b.marks < 2 ^ 32 → b.level ≤ a.level
    → dominates a b ≡ eqb (bit_and b.marks (4294967295 - a.marks)) 0
dominates_32 a b = dominates_mask 32 a b
