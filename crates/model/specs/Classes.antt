-- Classes and their order. 01, "What the store holds", second paragraph; the common part is named in 02, M-110.
-- A set of marks is the number whose binary digits they are. How many marks there are is said by `w`, the number of hex digits that
-- write them: 8 for 32 marks, 16 for 64.
-- Assumes nothing.
use Rattle.std.specs.Prelude.{Bool, ◌&&◌, ℕ, ◌^◌, min, leb, ltb, eqb}
use Rattle.std.specs.Int.Bits.{bit_and}
use Rattle.model.specs.declared.Class.{Class}

-- the marks of b are all among those of a
unfoldable pub within : ℕ → ℕ → Bool
within a b = eqb (bit_and b a) b

-- a dominates b: its level is at least as high, and the marks of b are all among those of a
unfoldable pub dominates : Class → Class → Bool
dominates a b = leb b.level a.level && within a.marks b.marks

unfoldable pub same : Class → Class → Bool
same a b = eqb a.level b.level && eqb a.marks b.marks

-- the lower level, and the marks that both have
unfoldable pub common : Class → Class → Class
common a b = record { level = min a.level b.level; marks = bit_and a.marks b.marks }

-- a class of ours: level 0 to 3, marks of w hex digits
unfoldable pub class_sound : ℕ → Class → Bool
class_sound w k = leb k.level 3 && ltb k.marks (16 ^ w)
