-- The loops that read digits, in any base and by any rule for a digit.
-- Assumes nothing.
use mathlib.Core.Path.{◌≡◌, refl}
use mathlib.Core.Bool.{false, not, true}
use mathlib.Core.List.{[], ◌∷◌}
use Rattle.std.specs.Prelude.{Option, None, Some}
use Prim.Native.Nat.{◌%◌, ◌*◌, ◌+◌, ◌<◌, ◌^◌, ◌≤◌, ℕ}
use native.Mathlib.Nat.{le-add_right, le-mul_of_pos_right, le_trans, lt_of_lt_of_le}
use native.Mathlib.Numerals.{add-one}
use native.Mathlib.Omega.{arith}
use lib.Arith.{digits_lt}
use lib.Bits.{bit_or, or_shifted}
use lib.Dec.{eqb}
use lib.ListN.{drop, drop_of_length-le, get_or, length}
use lib.Pow.{pow-add, shl_exact}
use lib.Seq.{drop-cons}
use borrow.Author.Tests.{eq-eqb, lt-leb, ne_eqb}
use Rattle.model.specs.Numbers.{Bytes, dec_digit, dec_value, hex_digit, leads_well, num_from, on_num, read_dec, up_to}
use Rattle.model.proofs.NumberLaws.{hex_rule}
use Rattle.model.proofs.OptionLaws.{nothing_is}

module _ (digit : ℕ → Option ℕ) (base : ℕ) where
  -- a byte more, the end
  pub num_step : (s : Bytes) (i acc : ℕ) → i < length s
      → num_from digit base acc (drop i s) ≡ on_num (digit (get_or s i 0)) None (λ (d : ℕ). num_from digit base (acc * base + d) (drop (i + 1) s))
  unfolding num_from
  num_step s i acc h = rw (drop-cons s i 0 h, add-one)

  pub num_end : (s : Bytes) (i acc : ℕ) → length s ≤ i → num_from digit base acc (drop i s) ≡ Some acc
  unfolding num_from
  num_end s i acc h = rw (drop_of_length-le s h)

  -- what is read never falls below what has been read
  num_grows : 0 < base → (s : Bytes) (acc v : ℕ) → num_from digit base acc s ≡ Some v → acc ≤ v
  unfolding num_from
  num_grows p [] acc v h = let z : acc ≡ v = cc in omega arith
  num_grows p (b ∷ bs) acc v h = go (digit b) refl (λ d. num_grows p bs (acc * base + d) v)
    where
      go : (o : Option ℕ) → digit b ≡ o → ((d : ℕ) → num_from digit base (acc * base + d) bs ≡ Some v → acc * base + d ≤ v) → acc ≤ v
      go (Some d) e ih = le_trans (le_trans (le-mul_of_pos_right acc p) (le-add_right (acc * base) d)) (ih d (rw e at h))
      go None e ih = nothing_is (rw e at h)

-- past the limit there is no number
pub over_limit : (limit acc : ℕ) (s : Bytes) → limit < acc → on_num (num_from dec_digit 10 acc s) None (up_to limit) ≡ None
over_limit limit acc s h = go (num_from dec_digit 10 acc s) refl
  where
    go : (o : Option ℕ) → num_from dec_digit 10 acc s ≡ o → on_num o None (up_to limit) ≡ None
    go (Some v) e = simp (lt-leb v limit (lt_of_lt_of_le h (num_grows dec_digit 10 (omega arith) s acc v e)))
    go None e = refl

-- a hex digit joined by a shift behind i others
grown : (acc d i : ℕ) → acc < 2 ^ (4 * i) → d < 16 → acc * 16 + d < 2 ^ (4 * (i + 1))
grown acc d i h k =
    let e : 4 * (i + 1) ≡ 4 * i + 4 = omega arith in
    rw (e, pow-add 2 (4 * i) 4) (digits_lt h k)

shifted : (acc d i : ℕ) → acc < 2 ^ (4 * i) → d < 16 → i < 16 → bit_or (acc * 16 % 2 ^ 64) d ≡ acc * 16 + d
shifted acc d i h k f = rw (shl_exact (4 * i) 4 64 h (omega arith)) (or_shifted acc 4 d k)

pub hex_step : (s : Bytes) (i acc d : ℕ) → i < length s → i < 16 → acc < 2 ^ (4 * i) → hex_digit (get_or s i 0) ≡ Some d
    → (bit_or (acc * 16 % 2 ^ 64) d < 2 ^ (4 * (i + 1))) × (num_from hex_digit 16 acc (drop i s) ≡ num_from hex_digit 16 (bit_or (acc * 16 % 2 ^ 64) d) (drop (i + 1) s))
hex_step s i acc d h m l e =
    let k : d < 16 = (hex_rule.back (get_or s i 0) d e).0 in
    rw (shifted acc d i l k m) (grown acc d i l k, rw (num_step hex_digit 16 s i acc h, e))

-- the first bytes of a decimal number, by its length
pub lead_none : (s : Bytes) → length s ≡ 0 → leads_well s ≡ false
unfolding leads_well
lead_none [] h = refl
lead_none (b ∷ bs) h = absurd (omega arith)

pub lead_one : (s : Bytes) → length s ≡ 1 → leads_well s ≡ true
unfolding leads_well
lead_one [] h = absurd (omega arith)
lead_one (b ∷ []) h = refl
lead_one (b ∷ a ∷ bs) h = absurd (omega arith)

pub lead_many : (s : Bytes) → 1 < length s → leads_well s ≡ not (eqb (get_or s 0 0) 48)
unfolding leads_well
lead_many [] h = absurd (omega arith)
lead_many (b ∷ []) h = absurd (omega arith)
lead_many (b ∷ a ∷ bs) h = refl

-- a zero in front of another byte
pub front_zero : (limit : ℕ) (s : Bytes) → 1 < length s → get_or s 0 0 ≡ 48 → read_dec limit s ≡ None
unfolding read_dec
front_zero limit s h e = simp (lead_many s h, eq-eqb (get_or s 0 0) 48 e)

pub no_front_zero : (limit : ℕ) (s : Bytes) → 1 < length s → (get_or s 0 0 ≡ 48 → ⊥) → read_dec limit s ≡ dec_value limit s
unfolding read_dec
no_front_zero limit s h e = simp (lead_many s h, ne_eqb (get_or s 0 0) 48 e)
