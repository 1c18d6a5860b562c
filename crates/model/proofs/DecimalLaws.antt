-- Decimal text, there and back.
-- Assumes nothing.
use mathlib.Core.Path.{◌∙◌, ◌≡◌, refl}
use mathlib.Core.Bool.{Bool, cond, false, false≢true, true}
use mathlib.Core.List.{[], ◌∷◌}
use Rattle.std.specs.Prelude.{Option, None, Some}
use Prim.Native.Nat.{◌%◌, ◌*◌, ◌+◌, ◌/◌, ◌<◌, ◌^◌, ◌≤◌, suc, zero, ℕ}
use native.Mathlib.Nat.{div-lt_iff_lt-mul, le_antisymm, le-div_iff_mul-le, mod-eq_of_lt, pow-le-pow_right, pow-suc, zero-add, zero-mul}
use native.Mathlib.Omega.{arith}
use lib.Dec.{eqb, leb, ltb}
use lib.ListN.{length}
use borrow.Author.Tests.{eqb-false, le-leb, leb-true, lt-ltb, ltb-false, ltb-true, ne_eqb}
use Rattle.model.specs.Numbers.{Bytes, dec_digit, dec_text, dec_value, digit_byte, digits, leads_well, num_from, on_num, places, read_dec, up_to}
use Rattle.model.proofs.Tests.{not-true}
use Rattle.model.proofs.OptionLaws.{cond-some, nothing_is}
use Rattle.model.proofs.NumberLaws.{dec_rule, digits-read, length_digits, places_small, pow_pos, read-digits}

-- v has fewer than `places` digits, and not fewer than one less
lt_fuel : (f v : ℕ) → v ≤ f → v < 10 ^ places f v
unfolding places
lt_fuel zero v h = omega arith
lt_fuel (suc f) v h = go (ltb v 10) refl (lt_fuel f (v / 10))
  where
    go : (t : Bool) → ltb v 10 ≡ t → (v / 10 ≤ f → v / 10 < 10 ^ places f (v / 10)) → v < 10 ^ cond t 1 (suc (places f (v / 10)))
    go true e ih = let r : v < 10 = ltb-true v 10 e in omega arith
    go false e ih =
        let r : 10 ≤ v = ltb-false v 10 e in
        let i : v / 10 < 10 ^ places f (v / 10) = ih (omega arith) in
        rw (pow-suc 10 (places f (v / 10))) (omega arith)

ge_fuel : (f v : ℕ) → v ≤ f → 0 < v → 10 ^ places f v ≤ v * 10
unfolding places
ge_fuel zero v h k = omega arith
ge_fuel (suc f) v h k = go (ltb v 10) refl (ge_fuel f (v / 10))
  where
    go : (t : Bool) → ltb v 10 ≡ t → (v / 10 ≤ f → 0 < v / 10 → 10 ^ places f (v / 10) ≤ v / 10 * 10) → 10 ^ cond t 1 (suc (places f (v / 10))) ≤ v * 10
    go true e ih = omega arith
    go false e ih =
        let r : 10 ≤ v = ltb-false v 10 e in
        let i : 10 ^ places f (v / 10) ≤ v / 10 * 10 = ih (omega arith) (omega arith) in
        rw (pow-suc 10 (places f (v / 10))) (omega arith)

pub places_lt : (v : ℕ) → v < 10 ^ places v v
places_lt v = lt_fuel v v (omega arith)

pub places_ge : (v : ℕ) → 0 < v → 10 ^ places v v ≤ v * 10
places_ge v h = ge_fuel v v (omega arith) h

no_more : (j k v : ℕ) → v < 10 ^ j → 10 ^ k ≤ v * 10 → k ≤ j
no_more j k v a b = go (ltb j k) refl
  where
    go : (t : Bool) → ltb j k ≡ t → k ≤ j
    go true e =
        let p : 10 ^ suc j ≤ 10 ^ k = pow-le-pow_right (omega arith) (ltb-true j k e) in
        let q : 10 ^ j * 10 ≤ 10 ^ k = rw pow-suc at p in
        absurd (omega arith)
    go false e = ltb-false j k e

pub places_is : (k v : ℕ) → v < 10 ^ k → 10 ^ k ≤ v * 10 → places v v ≡ k
places_is k v a b = le_antisymm (no_more k (places v v) v a (places_ge v (go v b))) (no_more (places v v) k v (places_lt v) b)
  where
    go : (v : ℕ) → 10 ^ k ≤ v * 10 → 0 < v
    go zero h = let p : 0 < 10 ^ k = pow_pos 10 k (omega arith) in omega arith
    go (suc v) h = omega arith

pub length_dec : (v : ℕ) → length (dec_text v) ≡ places v v
unfolding dec_text
length_dec v = length_digits 10 (places v v) v

-- the text of a number has no zero in front
lead : (k v : ℕ) → v < 10 ^ k → 10 ^ k ≤ v * 10 → leads_well (digits 10 k v) ≡ true
unfolding leads_well digits
lead zero v a b = absurd (omega arith)
lead (suc zero) v a b = refl
lead (suc (suc k)) v a b =
    let p : 0 < 10 ^ suc k = pow_pos 10 (suc k) (omega arith) in
    let a' : v < 10 ^ suc k * 10 = rw pow-suc at a in
    let b' : 10 ^ suc k * 10 ≤ v * 10 = rw pow-suc at b in
    let x : v / 10 ^ suc k < 10 = (div-lt_iff_lt-mul p).1 (omega arith) in
    let y : 1 ≤ v / 10 ^ suc k = (le-div_iff_mul-le p).1 (omega arith) in
    let q : v / 10 ^ suc k % 10 ≡ v / 10 ^ suc k = mod-eq_of_lt x in
    rw (q, lt-ltb (v / 10 ^ suc k) 10 x, ne_eqb (48 + v / 10 ^ suc k) 48 (λ e. omega arith))

pub dec_leads : (v : ℕ) → leads_well (dec_text v) ≡ true
unfolding dec_text
dec_leads zero = unfold leads_well digits places in refl
dec_leads (suc v) = lead (places (suc v) (suc v)) (suc v) (places_lt (suc v)) (places_ge (suc v) (omega arith))

pub dec_read : (limit v : ℕ) → v ≤ limit → read_dec limit (dec_text v) ≡ Some v
unfolding read_dec dec_value
dec_read limit v h =
    let e : num_from dec_digit 10 0 (dec_text v) ≡ Some v = unfold dec_text in (read-digits dec_rule (places v v) 0 v ∙ rw (mod-eq_of_lt (places_lt v), zero-mul, zero-add)) in
    rw (dec_leads v, e, le-leb v limit h)

-- a text that leads well is as long as its number's
well_long : (s : Bytes) (v : ℕ) → leads_well s ≡ true → num_from dec_digit 10 0 s ≡ Some v → places v v ≡ length s
unfolding leads_well num_from
well_long [] v w h = absurd (false≢true w)
well_long (b ∷ []) v w h =
    let r : v / 10 ≡ 0 = (digits-read dec_rule (b ∷ []) 0 v h).0 in
    places_small v (omega arith)
well_long (b ∷ a ∷ bs) v w h = go (dec_digit b) refl
  where
    go : (o : Option ℕ) → dec_digit b ≡ o → places v v ≡ suc (suc (length bs))
    go (Some d) e =
        let k : ℕ = suc (length bs) in
        let p : 0 < 10 ^ k = pow_pos 10 k (omega arith) in
        let n : b ≡ 48 → ⊥ = eqb-false b 48 (not-true (eqb b 48) w) in
        let f : (d < 10) × (digit_byte d ≡ b) = dec_rule.back b d e in
        let g : 48 + d ≡ b = rw (lt-ltb d 10 f.0) at f.1 in
        let h' : num_from dec_digit 10 (0 * 10 + d) (a ∷ bs) ≡ Some v = rw e at h in
        let r : v / 10 ^ k ≡ 0 * 10 + d = (digits-read dec_rule (a ∷ bs) (0 * 10 + d) v h').0 in
        let q : v / 10 ^ suc k ≡ 0 = (digits-read dec_rule (b ∷ a ∷ bs) 0 v h).0 in
        let x : 1 * 10 ^ k ≤ v = (le-div_iff_mul-le p).0 (omega arith) in
        let y : v < 1 * 10 ^ suc k = (div-lt_iff_lt-mul (pow_pos 10 (suc k) (omega arith))).0 (omega arith) in
        places_is (suc k) v (omega arith) (rw (pow-suc 10 k) (omega arith))
    go None e = nothing_is (rw e at h)

-- what was read is within the limit, and is written as it stood
pub dec_text_lem : (limit v : ℕ) (s : Bytes) → read_dec limit s ≡ Some v → (v ≤ limit) × (dec_text v ≡ s)
unfolding read_dec dec_value dec_text
dec_text_lem limit v s h = let (e, k) = cond-some (leads_well s) (dec_value limit s) v h in go e (num_from dec_digit 10 0 s) refl k
  where
    go : leads_well s ≡ true → (o : Option ℕ) → num_from dec_digit 10 0 s ≡ o → on_num o None (up_to limit) ≡ Some v → (v ≤ limit) × (digits 10 (places v v) v ≡ s)
    go e (Some n) f k =
        let (g, j) = cond-some (leb n limit) (Some n) v k in
        let f' : num_from dec_digit 10 0 s ≡ Some v = f ∙ j in
        let l : n ≤ limit = leb-true n limit g in
        let z : n ≡ v = cc in
        (omega arith, rw (well_long s v e f') (digits-read dec_rule s 0 v f').1)
    go e None f k = nothing_is k
