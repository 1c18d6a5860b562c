-- Values, kinds and fields. 01, "What the store holds", third paragraph, and the letters of "Sheets and tapes".
-- Assumes nothing.
use Rattle.std.specs.Prelude.{Bool, true, cond, not, ◌&&◌, ◌||◌, ℕ, ◌^◌, eqb, ltb}
use Prim.Native.Char.{code}
use Rattle.std.specs.Float.Ieee as ieee
use Rattle.std.specs.Float.{binary32}
use Rattle.std.specs.Float.Ieee.{of_bits, to_bits, nan_bits, is_nan}
use Rattle.model.specs.declared.Class.{Class}
use Rattle.model.specs.declared.Value.{Value}
use Rattle.model.specs.declared.Value.TheVariants.{Blank, Count, Rate, Nan, Classed, Hidden}
use Rattle.model.specs.declared.Kind.{Kind}
use Rattle.model.specs.declared.Kind.TheVariants.{Counts, Rates, Classes}
use Rattle.model.specs.declared.Field.{Field}
use Rattle.model.specs.Classes.{dominates, class_sound}

-- ---- kinds
-- the mark that opens a value's text
unfoldable pub mark : Value → ℕ
mark Blank = code "-"
mark (Count n) = code "N"
mark (Rate x) = code "F"
mark (Nan b) = code "F"
mark (Classed k) = code "K"
mark Hidden = code "?"

-- a column's kind letter, the mark of its values
unfoldable pub kind_letter : Kind → ℕ
kind_letter Counts = code "N"
kind_letter Rates = code "F"
kind_letter Classes = code "K"

unfoldable pub is_hidden : Value → Bool
is_hidden v = eqb (mark v) (code "?")

-- blank, or of the kind
unfoldable pub fits : Kind → Value → Bool
fits k v = eqb (mark v) (code "-") || eqb (mark v) (kind_letter k)

-- ---- rates, kept by their bits
-- what a rate's 32 bits stand for: a number, or a not-a-number by its bits
unfoldable pub rate_of : ℕ → Value
rate_of b = cond (nan_bits binary32 b) (Nan b) (Rate (of_bits binary32 b))

-- ---- values of ours: counts and rates of 32 bits, each rate in its one case
unfoldable pub value_sound : ℕ → Value → Bool
value_sound w Blank = true
value_sound w (Count n) = ltb n (2 ^ 32)
value_sound w (Rate x) = ieee.fits binary32 x && not (is_nan x)
value_sound w (Nan b) = ltb b (2 ^ 32) && nan_bits binary32 b
value_sound w (Classed k) = class_sound w k
value_sound w Hidden = true

unfoldable pub field_sound : ℕ → Field → Bool
field_sound w f = class_sound w f.class && value_sound w f.value

-- ---- equal values. 01, "Commands", Select: rates by their bits, blank equal to blank
-- the number that a value carries: a count, a rate's bits, a class's marks
unfoldable pub carried : Value → ℕ
carried Blank = 0
carried (Count n) = n
carried (Rate x) = to_bits binary32 x
carried (Nan b) = b
carried (Classed k) = k.marks
carried Hidden = 0

-- the level of the class that it carries
unfoldable pub carried_level : Value → ℕ
carried_level Blank = 0
carried_level (Count n) = 0
carried_level (Rate x) = 0
carried_level (Nan b) = 0
carried_level (Classed k) = k.level
carried_level Hidden = 0

unfoldable pub same_value : Value → Value → Bool
same_value a b = eqb (mark a) (mark b) && (eqb (carried a) (carried b) && eqb (carried_level a) (carried_level b))

-- ---- hiding. 01, "The view at a clearance": the class stays; the value is hidden where the class is not dominated
unfoldable pub hide : Class → Field → Field
hide c f = record { class = f.class; value = cond (dominates c f.class) f.value Hidden }
