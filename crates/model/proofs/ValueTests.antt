-- The tests of values: hidden, fitting a kind, and equal as a condition asks.
-- Assumes nothing.
use lib.Ieee as ieee
use mathlib.Core.Path.{◌∙◌, ◌≡◌, ap, refl, subst, sym}
use mathlib.Core.Logic.{inl, inr, ⊎_elim}
use mathlib.Core.Bool.{cond, false, not, true}
use Prim.Native.Char.{code}
use Prim.Native.Nat.{◌^◌, ℕ}
use lib.Dec.{eqb, ltb}
use lib.Ieee.{Float, binary32, is_nan, nan_bits, of_bits, to_bits}
use lib.Ieee.Bits.{nan_bits_is, of_bits-to_bits}
use borrow.Author.Tests.{eq-eqb, eqb-true}
use Rattle.model.specs.declared.Kind.{Kind}
use Rattle.model.specs.declared.Kind.TheVariants.{Classes, Counts, Rates}
use Rattle.model.specs.declared.Value.{Value}
use Rattle.model.specs.declared.Value.TheVariants.{Blank, Classed, Count, Hidden, Nan, Rate}
use Rattle.model.specs.Values.{carried, carried_level, fits, is_hidden, kind_letter, mark, rate_of, same_value, value_sound}
use Rattle.model.specs.Conditions.{Fits, OfKind}
use Rattle.model.specs.Claims.{SameValue}
use Rattle.model.proofs.Tests.{and-fst, and-snd, not-true, to_T}
use Rattle.model.proofs.Reflects.{Reflects, and_reflects, eqb_reflects, or_reflects, reworded}

-- ---- what a value's mark tells of it
abbrev Told : ℕ → Value → Type 0
Told m v =
    cond (eqb m (code "-")) (v ≡ Blank)
    (cond (eqb m (code "N")) (OfKind Counts v)
    (cond (eqb m (code "F")) (OfKind Rates v)
    (cond (eqb m (code "K")) (OfKind Classes v) (v ≡ Hidden))))

told : (v : Value) → Told (mark v) v
unfolding mark
told Blank = refl
told (Count n) = (n, refl)
told (Rate x) = inl (x, refl)
told (Nan b) = inr (b, refl)
told (Classed k) = (k, refl)
told Hidden = refl

told_by : (v : Value) (m : ℕ) → eqb (mark v) m ≡ true → Told m v
told_by v m e = subst (λ (x : ℕ). Told x v) (eqb-true (mark v) m e) (told v)

-- a value that is u has u's mark
marked : (v u : Value) → v ≡ u → eqb (mark v) (mark u) ≡ true
marked v u e = eq-eqb (mark v) (mark u) (ap mark e)

pub hidden_reflects : (v : Value) → Reflects (is_hidden v) (v ≡ Hidden)
unfolding is_hidden mark
hidden_reflects v = (told_by v (code "?"), marked v Hidden)

kind_reflects : (k : Kind) (v : Value) → Reflects (eqb (mark v) (kind_letter k)) (OfKind k v)
unfolding mark kind_letter
kind_reflects Counts v = (told_by v (code "N"), λ h. marked v (Count h.0) h.1)
kind_reflects Rates v = (told_by v (code "F"), ⊎_elim (λ h. marked v (Rate h.0) h.1) (λ h. marked v (Nan h.0) h.1))
kind_reflects Classes v = (told_by v (code "K"), λ h. marked v (Classed h.0) h.1)

pub fits_reflects : (k : Kind) (v : Value) → Reflects (fits k v) (Fits k v)
unfolding fits mark
fits_reflects k v = or_reflects (told_by v (code "-"), marked v Blank) (kind_reflects k v)

-- ---- equal values: a value of ours is told by its mark and what it carries
remade : ℕ → ℕ → ℕ → Value
remade m n l =
    cond (eqb m (code "-")) Blank
    (cond (eqb m (code "N")) (Count n)
    (cond (eqb m (code "F")) (rate_of n)
    (cond (eqb m (code "K")) (Classed (record { level = l; marks = n })) Hidden)))

rate_remade : (w : ℕ) (x : Float) → value_sound w (Rate x) ≡ true → rate_of (to_bits binary32 x) ≡ Rate x
unfolding rate_of value_sound
rate_remade w x h =
    let there : of_bits binary32 (to_bits binary32 x) ≡ x = of_bits-to_bits binary32 x (to_T _ (and-fst (ieee.fits binary32 x) (not (is_nan x)) h)) in
    let proper : is_nan x ≡ false = not-true (is_nan x) (and-snd (ieee.fits binary32 x) (not (is_nan x)) h) in
    rw (nan_bits_is, there, proper)

value-remade : (w : ℕ) (v : Value) → value_sound w v ≡ true → remade (mark v) (carried v) (carried_level v) ≡ v
unfolding remade mark carried carried_level value_sound rate_of
value-remade w Blank h = refl
value-remade w (Count n) h = refl
value-remade w (Rate x) h = rate_remade w x h
value-remade w (Nan b) h = rw (and-snd (ltb b (2 ^ 32)) (nan_bits binary32 b) h)
value-remade w (Classed k) h = refl
value-remade w Hidden h = refl

pub same_value_lem : SameValue
unfolding same_value
same_value_lem w a b ha hb =
    reworded test
    (λ h. sym (value-remade w a ha) ∙ (λ i. remade (h.0 i) (h.1.0 i) (h.1.1 i)) ∙ value-remade w b hb)
    (λ e. (ap mark e, (ap carried e, ap carried_level e)))
  where
    test : Reflects (same_value a b) ((mark a ≡ mark b) × ((carried a ≡ carried b) × (carried_level a ≡ carried_level b)))
    test =
        and_reflects (eqb_reflects (mark a) (mark b))
        (and_reflects (eqb_reflects (carried a) (carried b)) (eqb_reflects (carried_level a) (carried_level b)))
