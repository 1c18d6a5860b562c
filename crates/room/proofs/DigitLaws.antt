-- Loops that write digits: front first, and back to front.
-- Assumes nothing.
use Rattle.std.proofs.Common.{◌≡◌, ◌∙◌, ap, ap₂, refl, Bool, cond, false, true, ◌∷◌, ◌++◌, [], reverse, ℕ, zero, suc, ◌%◌, ◌*◌, ◌+◌, ◌-◌, ◌/◌, ◌<◌, ◌^◌, ◌≤◌, leb, ltb, arith, length, length-append, add-one}
use Rattle.std.proofs.lemmas.List.{reverse-append}
use native.Mathlib.Nat.{div-div-eq-div-mul, div-eq_of_lt, le_refl, lt_of_lt_of_le, pow-le-pow_right, pow-suc}
use lib.Pow.{pow-add}
use borrow.Author.Tests.{le-ltb, leb-false, leb-true, lt-ltb, ltb-false}
use Rattle.model.specs.Numbers.{Bytes, dec_text, digit_byte, digits, places}
use Rattle.model.proofs.DecimalLaws.{places_ge}
use Rattle.model.proofs.NumberLaws.{places_small}

-- ---- hex digits
pub pow_16 : (k : ℕ) → 2 ^ (4 * k) ≡ 16 ^ k
pow_16 zero = refl
pow_16 (suc k) =
    let e : 4 * suc k ≡ 4 * k + 4 = omega arith in
    rw (e, pow-add 2 (4 * k) 4, pow-suc 16 k, pow_16 k)

-- a number of n hex digits has no others
pub no_digits : (n k v : ℕ) → v < 16 ^ n → n ≤ k → v / 16 ^ k ≡ 0
no_digits n k v h m = div-eq_of_lt (lt_of_lt_of_le h (pow-le-pow_right (omega arith) m))

-- ---- front first: the next digit, and those left
pub digits_next : (base k v : ℕ) → 0 < k → digits base k v ≡ digit_byte (v / base ^ (k - 1) % base) ∷ digits base (k - 1) v
unfolding digits
digits_next base zero v h = absurd (omega arith)
digits_next base (suc k) v h = let e : suc k - 1 ≡ k = omega arith in rw e

-- ---- back to front: none is made, and one more than those of l
pub made_none : (v : ℕ) → reverse [] ≡ digits 10 0 v
unfolding digits
made_none v = refl

pub made_more : (l : Bytes) (v r x : ℕ) → reverse l ≡ digits 10 (length l) v → r ≡ v / 10 ^ length l → x ≡ digit_byte (r % 10 % 16)
    → reverse (l ++ (x ∷ [])) ≡ digits 10 (length (l ++ (x ∷ []))) v
unfolding digits
made_more l v r x e k d =
    let n = length l in
    let m : r % 10 % 16 ≡ r % 10 = omega arith in
    let long : length (l ++ (x ∷ [])) ≡ suc n = omega (arith, length-append l (x ∷ [])) in
    rw (long, reverse-append l (x ∷ [])) (ap₂ (λ (y : ℕ) (t : Bytes). y ∷ t) (d ∙ ap digit_byte (m ∙ ap (λ (y : ℕ). y % 10) k)) e)

pub rest_more : (v n : ℕ) → v / 10 ^ n / 10 ≡ v / 10 ^ (n + 1)
rest_more v n = rw (add-one n, pow-suc 10 n) (div-div-eq-div-mul v (10 ^ n) 10)

-- ---- how many decimal digits there are
places_fuel : (f g v : ℕ) → v ≤ f → v ≤ g → places f v ≡ places g v
unfolding places
places_fuel zero zero v h k = refl
places_fuel zero (suc g) v h k = rw (lt-ltb v 10 (omega arith))
places_fuel (suc f) zero v h k = rw (lt-ltb v 10 (omega arith))
places_fuel (suc f) (suc g) v h k = go (ltb v 10) refl (places_fuel f g (v / 10))
  where
    go : (t : Bool) → ltb v 10 ≡ t → (v / 10 ≤ f → v / 10 ≤ g → places f (v / 10) ≡ places g (v / 10)) → cond t 1 (suc (places f (v / 10))) ≡ cond t 1 (suc (places g (v / 10)))
    go true e ih = refl
    go false e ih = let r : 10 ≤ v = ltb-false v 10 e in ap suc (ih (omega arith) (omega arith))

pub places_big : (v : ℕ) → 10 ≤ v → places v v ≡ places (v / 10) (v / 10) + 1
unfolding places
places_big zero h = absurd (omega arith)
places_big (suc v) h = rw (le-ltb (suc v) 10 h, add-one) (ap suc (places_fuel v (suc v / 10) (suc v / 10) (omega arith) (le_refl (suc v / 10))))

pub places_some : (v : ℕ) → 1 ≤ places v v
places_some v = go (leb 10 v) refl
  where
    go : (t : Bool) → leb 10 v ≡ t → 1 ≤ places v v
    go true e = omega (arith, places_big v (leb-true 10 v e))
    go false e = omega (arith, places_small v (leb-false 10 v e))

-- a u64 has twenty at most
pub places_most : (v : ℕ) → v < 2 ^ 64 → places v v ≤ 20
places_most v h = go (leb 21 (places v v)) (leb 1 v) refl refl
  where
    go : (t u : Bool) → leb 21 (places v v) ≡ t → leb 1 v ≡ u → places v v ≤ 20
    go true true e f =
        let p : 10 ^ 21 ≤ 10 ^ places v v = pow-le-pow_right (omega arith) (leb-true 21 (places v v) e) in
        absurd (omega (arith, places_ge v (leb-true 1 v f)))
    go true false e f = omega (arith, places_small v (omega (arith, leb-false 1 v f)))
    go false u e f = omega (arith, leb-false 21 (places v v) e)

-- all are made
pub made_all : (l : Bytes) (v : ℕ) → reverse l ≡ digits 10 (length l) v → places v v ≡ length l → reverse l ≡ dec_text v
unfolding dec_text
made_all l v e k = rw k e
