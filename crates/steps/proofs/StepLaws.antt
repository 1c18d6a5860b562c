-- What is left of the line s at a place, and behind the field there.
-- Assumes nothing.
use mathlib.Core.Path.{◌≡◌, ap, refl, sym}
use mathlib.Core.Bool.{false, true}
use mathlib.Core.List.{List, [], ◌∷◌}
use Rattle.std.specs.Prelude.{Some}
use Prim.Native.Nat.{◌<◌, ◌≤◌, ℕ}
use native.Mathlib.Omega.{arith}
use Rattle.std.proofs.Common.{Fits, w8}
use lib.ListN.{length}
use Rattle.model.specs.declared.Class.{Class}
use Rattle.model.specs.Numbers.{Bytes, read_dec}
use Rattle.model.specs.Places.{map_o}
use Rattle.model.specs.Texts.{class, read_class}
use Rattle.model.proofs.DecimalLaws.{dec_text_lem}
use Rattle.model.proofs.OptionLaws.{nothing_is}
use Rattle.text.specs.Fields.{behind, field_at, fields_at, first_of, others_of}
use Rattle.text.proofs.FieldLaws.{fields-end, fields-more, fields-others}
use Rattle.steps.specs.Steps.{first_by, none_left}

module _ (s : Bytes) (at : ℕ) where
  pub past_end : length s < at → none_left (fields_at 9 s at) ≡ true
  past_end h = ap none_left (fields-end 9 s at h)

  pub before_end : at ≤ length s → none_left (fields_at 9 s at) ≡ false
  before_end h = ap none_left (fields-more 9 s at (field_at 9 s at) (behind s at (length (field_at 9 s at))) refl refl h)

  -- x is the field there, and r the place behind it
  pub others_left : (x : Bytes) (r : ℕ) → x ≡ field_at 9 s at → r ≡ behind s at (length x) → fields_at 9 s r ≡ others_of (fields_at 9 s at)
  others_left x r here next = fields-others 9 s at x r here next

-- a number that was read fits where its limit does
pub number_fits : (limit n : ℕ) (x : Bytes) → Fits w8 limit → Some n ≡ read_dec limit x → Fits w8 n
number_fits limit n x h e =
    let k : n ≤ limit = (dec_text_lem limit n x (sym e)).0 in
    record { fits = omega arith }

-- a class that was read of the first field, and the others
pub class_some : (l m : List Bytes) (k : Class) → Some k ≡ read_class 8 (first_of l) → m ≡ others_of l → Some (k, m) ≡ first_by (class 8) l
unfolding read_class
class_some [] m k e h = nothing_is (sym e)
class_some (x ∷ l) m k e h = rw h (ap (map_o (λ (k : Class). (k, l))) e)
