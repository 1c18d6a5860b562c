-- What is left to test of a value of ours, where its type says how wide its number is. No number of marks is fixed.
-- Assumes nothing.
use mathlib.Core.Path.{◌≡◌, sym}
use mathlib.Core.Bool.{true, not}
use Prim.Native.Nat.{ℕ, ◌^◌, ◌<◌}
use lib.Ieee as ieee
use lib.Ieee.{Float, binary32, is_nan, nan_bits}
use borrow.Author.Tests.{lt-ltb}
use Rattle.model.specs.declared.Value.TheVariants.{Count, Rate, Nan}
use Rattle.model.specs.Values.{value_sound}

pub sound_count : (w n : ℕ) → n < 2 ^ 32 → true ≡ value_sound w (Count n)
unfolding value_sound
sound_count w n h = sym (lt-ltb n (2 ^ 32) h)

pub sound_rate : (w : ℕ) (x : Float) → ieee.fits binary32 x ≡ true → not (is_nan x) ≡ value_sound w (Rate x)
unfolding value_sound
sound_rate w x h = rw h

pub sound_nan : (w b : ℕ) → b < 2 ^ 32 → nan_bits binary32 b ≡ value_sound w (Nan b)
unfolding value_sound
sound_nan w b h = rw (lt-ltb b (2 ^ 32) h)
