-- Rates and their bits: which of them are no number's, and the bits of the one not-a-number of a float.
-- Assumes nothing.
use mathlib.Core.Path.{◌≡◌, refl, sym}
use mathlib.Core.Bool.{false, not, false≢true}
use Prim.Native.Nat.{ℕ, ◌%◌}
use lib.Dec.{ltb}
use lib.Ieee.{Float, nan, inf, fin, is_nan, nan_bits, binary32, to_bits}
use lib.Ieee.Bits.{nan_bits_above}

-- bits above those of the infinite rate, the sign taken off, are a not-a-number's
pub nan_above : (b : ℕ) → nan_bits binary32 b ≡ ltb 2139095040 (b % 2147483648)
nan_above b = nan_bits_above binary32 b

-- the bits of a float that is no number
pub no_number : (x : Float) → not (is_nan x) ≡ false → 2143289344 ≡ to_bits binary32 x
unfolding is_nan to_bits
no_number nan e = refl
no_number (inf s) e = absurd (false≢true (sym e))
no_number (fin s m d) e = absurd (false≢true (sym e))
