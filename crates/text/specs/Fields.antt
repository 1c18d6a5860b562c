-- The fields of a text from a place on: what a reader that goes on field by field has before it. `b` is the byte that parts them, a tab
-- in a line and a line feed in a sheet.
-- Assumes nothing.
use Rattle.std.specs.Prelude.{cond, List, [], ◌∷◌, ℕ, ◌+◌, min, leb, length, drop}
use Rattle.model.specs.Numbers.{Bytes}
use Rattle.model.specs.Lines.{split}

-- the fields that are left at a place; past the text's end there are none
unfoldable pub fields_at : ℕ → Bytes → ℕ → List Bytes
fields_at b s at = cond (leb at (length s)) (split b (drop at s)) []

-- the first of some fields, empty where there are none
abbrev pub first_of : List Bytes → Bytes
first_of [] = []
first_of (f ∷ fs) = f

-- the others
abbrev pub others_of : List Bytes → List Bytes
others_of [] = []
others_of (f ∷ fs) = fs

-- the field that starts at a place
unfoldable pub field_at : ℕ → Bytes → ℕ → Bytes
field_at b s at = first_of (fields_at b s at)

-- the place where it ends: that of the next b, or the text's end
unfoldable pub end_of : ℕ → Bytes → ℕ → ℕ
end_of b s at = min at (length s) + length (field_at b s at)

-- the place behind n bytes and the one that ends them; never further than one past the text's end
abbrev pub behind : Bytes → ℕ → ℕ → ℕ
behind s at n = min (at + n) (length s) + 1
