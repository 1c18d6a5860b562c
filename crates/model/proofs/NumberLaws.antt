-- Digits there and back, in any base and by any rule for a digit; and numbers of w hex digits.
-- Assumes nothing.
use mathlib.Core.Path.{◌∙◌, ◌≡◌, ap, refl, subst, sym}
use mathlib.Core.Bool.{Bool, cond, false, false≢true, true}
use mathlib.Core.List.{List, [], ◌∷◌}
use Rattle.std.specs.Prelude.{Option, None, Some}
use Prim.Native.Nat.{◌%◌, ◌*◌, ◌+◌, ◌-◌, ◌/◌, ◌<◌, ◌^◌, ◌≤◌, suc, zero, ℕ}
use native.Mathlib.Nat.{add_assoc, add-mul, add-zero, div-div-eq-div-mul, div-lt_iff_lt-mul, div-one, mod-eq_of_lt, mod-lt, mod-one, mul_assoc, mul_comm, mul-one, mul-pos, pow-suc, pow-zero, zero-add, zero-mul}
use native.Mathlib.Omega.{arith}
use lib.Arith.{digits_div, digits_mod, mod-mul}
use lib.Dec.{eqb, leb, ltb}
use lib.ListN.{length}
use borrow.Author.Tests.{eq-eqb, eqb-true, le-leb, le-ltb, leb-true, lt-leb, lt-ltb, ltb-false, ltb-true}
use Rattle.model.specs.Numbers.{Bytes, between, dec_digit, digit_byte, digits, hex_digit, num_from, places, read_hex}
use Rattle.model.proofs.OptionLaws.{cond-some, nothing_is}

-- ---- between two bounds
pub in_range : (a b e : ℕ) → a ≤ b → b ≤ e → between a b e ≡ true
in_range a b e p q = simp (le-leb a b p, le-leb b e q)

pub under_range : (a b e : ℕ) → b < a → between a b e ≡ false
under_range a b e p = simp (lt-leb a b p)

pub over_range : (a b e : ℕ) → e < b → between a b e ≡ false
over_range a b e p = go (leb a b)
  where
    go : (t : Bool) → cond t (leb b e) false ≡ false
    go true = lt-leb b e p
    go false = refl

pub range_has : (a b e : ℕ) → between a b e ≡ true → (a ≤ b) × (b ≤ e)
range_has a b e h = go (leb a b) refl h
  where
    go : (t : Bool) → leb a b ≡ t → cond t (leb b e) false ≡ true → (a ≤ b) × (b ≤ e)
    go true p q = (leb-true a b p, leb-true b e q)
    go false p q = absurd (false≢true q)

-- ---- digits
-- a rule for digits in a base, and its bytes
pub record Rule (digit : ℕ → Option ℕ) (base : ℕ) : Type 0 where
  pub pos : 0 < base
  pub back : (b d : ℕ) → digit b ≡ Some d → (d < base) × (digit_byte d ≡ b)
  pub forth : (d : ℕ) → d < base → digit (digit_byte d) ≡ Some d

pub hex_rule : Rule hex_digit 16
hex_rule = record { pos = omega arith; back = back; forth = forth }
  where
    back : (b d : ℕ) → hex_digit b ≡ Some d → (d < 16) × (digit_byte d ≡ b)
    back b d h = go (between 48 b 57) (between 65 b 70) refl refl h
      where
        go : (p q : Bool) → between 48 b 57 ≡ p → between 65 b 70 ≡ q → cond p (Some (b - 48)) (cond q (Some (b - 55)) None) ≡ Some d → (d < 16) × (digit_byte d ≡ b)
        go true q x y e =
            let r : (48 ≤ b) × (b ≤ 57) = range_has 48 b 57 x in
            let z : b - 48 ≡ d = cc in
            (omega arith, simp (lt-ltb d 10 (omega arith)) (omega arith))
        go false true x y e =
            let r : (65 ≤ b) × (b ≤ 70) = range_has 65 b 70 y in
            let z : b - 55 ≡ d = cc in
            (omega arith, simp (le-ltb d 10 (omega arith)) (omega arith))
        go false false x y e = nothing_is e

    forth : (d : ℕ) → d < 16 → hex_digit (digit_byte d) ≡ Some d
    forth d h = go (ltb d 10) refl
      where
        go : (t : Bool) → ltb d 10 ≡ t → hex_digit (cond t (48 + d) (55 + d)) ≡ Some d
        go true e =
            let r : d < 10 = ltb-true d 10 e in
            let z : 48 + d - 48 ≡ d = omega arith in
            simp (in_range 48 (48 + d) 57 (omega arith) (omega arith), z)
        go false e =
            let r : 10 ≤ d = ltb-false d 10 e in
            let z : 55 + d - 55 ≡ d = omega arith in
            simp (over_range 48 (55 + d) 57 (omega arith), in_range 65 (55 + d) 70 (omega arith) (omega arith), z)

pub dec_rule : Rule dec_digit 10
dec_rule = record { pos = omega arith; back = back; forth = forth }
  where
    back : (b d : ℕ) → dec_digit b ≡ Some d → (d < 10) × (digit_byte d ≡ b)
    back b d h = go (between 48 b 57) refl h
      where
        go : (p : Bool) → between 48 b 57 ≡ p → cond p (Some (b - 48)) None ≡ Some d → (d < 10) × (digit_byte d ≡ b)
        go true x e =
            let r : (48 ≤ b) × (b ≤ 57) = range_has 48 b 57 x in
            let z : b - 48 ≡ d = cc in
            (omega arith, simp (lt-ltb d 10 (omega arith)) (omega arith))
        go false x e = nothing_is e

    forth : (d : ℕ) → d < 10 → dec_digit (digit_byte d) ≡ Some d
    forth d h =
        let z : 48 + d - 48 ≡ d = omega arith in
        simp (lt-ltb d 10 h, in_range 48 (48 + d) 57 (omega arith) (omega arith), z)

pub length_digits : (base k v : ℕ) → length (digits base k v) ≡ k
unfolding digits
length_digits base zero v = refl
length_digits base (suc k) v = ap suc (length_digits base k v)

-- ---- there and back, for k digits
pub pow_pos : (base k : ℕ) → 0 < base → 0 < base ^ k
pow_pos base zero h = rw (pow-zero base) (omega arith)
pow_pos base (suc k) h = rw (pow-suc base k) (mul-pos (pow_pos base k h) h)

module _ {digit : ℕ → Option ℕ} {base : ℕ} (R : Rule digit base) where
  pub read-digits : (k acc v : ℕ) → num_from digit base acc (digits base k v) ≡ Some (acc * base ^ k + v % base ^ k)
  unfolding num_from digits
  read-digits zero acc v = ap Some (sym (rw (pow-zero base, mod-one v, mul-one acc, add-zero acc)))
  read-digits (suc k) acc v =
      let q : ℕ = v / base ^ k % base in
      rw (R.forth q (mod-lt (v / base ^ k) R.pos)) (
      read-digits k (acc * base + q) v
      ∙ ap Some (rw (pow-suc base k, mul_comm (base ^ k) base, mod-mul v R.pos (pow_pos base k R.pos), add-mul, mul_assoc, add_assoc)))

  pub digits-read : (s : List ℕ) (acc v : ℕ) → num_from digit base acc s ≡ Some v → (v / base ^ length s ≡ acc) × (digits base (length s) v ≡ s)
  unfolding num_from digits
  digits-read [] acc v h = let z : acc ≡ v = cc in (rw (pow-zero base, div-one v) (sym z), refl)
  digits-read (b ∷ bs) acc v h = go (digit b) refl (λ d. digits-read bs (acc * base + d) v)
    where
      go : (o : Option ℕ) → digit b ≡ o
          → ((d : ℕ) → num_from digit base (acc * base + d) bs ≡ Some v → (v / base ^ length bs ≡ acc * base + d) × (digits base (length bs) v ≡ bs))
          → (v / base ^ suc (length bs) ≡ acc) × (digit_byte (v / base ^ length bs % base) ∷ digits base (length bs) v ≡ b ∷ bs)
      go (Some d) e ih =
          let r = ih d (rw e at h) in
          let k = R.back b d e in (
            rw (pow-suc base (length bs), ← div-div-eq-div-mul v (base ^ length bs) base, r.0) (digits_div acc k.0),
            rw (r.0, digits_mod acc k.0, k.1, r.1),
          )
      go None e ih = nothing_is (rw e at h)

-- a number below ten has one digit
pub places_small : (v : ℕ) → v < 10 → places v v ≡ 1
unfolding places
places_small zero h = refl
places_small (suc v) h = rw (lt-ltb (suc v) 10 h)

-- ---- exactly n hex digits
pub hex_read : (n v : ℕ) → v < 16 ^ n → read_hex n (digits 16 n v) ≡ Some v
unfolding read_hex
hex_read n v h = rw (eq-eqb (length (digits 16 n v)) n (length_digits 16 n v), read-digits hex_rule n 0 v, mod-eq_of_lt h, zero-mul, zero-add)

-- what was read is below 16 ^ n, and is written as it stood
pub hex_text : (n v : ℕ) (s : Bytes) → read_hex n s ≡ Some v → (v < 16 ^ n) × (digits 16 n v ≡ s)
unfolding read_hex
hex_text n v s h =
    let (e, k) = cond-some (eqb (length s) n) (num_from hex_digit 16 0 s) v h in
    let r : (v / 16 ^ n ≡ 0) × (digits 16 n v ≡ s) = subst (λ (m : ℕ). (v / 16 ^ m ≡ 0) × (digits 16 m v ≡ s)) (eqb-true (length s) n e) (digits-read hex_rule s 0 v k) in
    let q : v / 16 ^ n ≡ 0 = r.0 in
    let y : v < 1 * 16 ^ n = (div-lt_iff_lt-mul (pow_pos 16 n (omega arith))).0 (omega arith) in
    (omega arith, r.1)
