-- Lines and fields: the stretches between line feeds, and between tabs. 01, "Sheets and tapes", first sentence.
-- Assumes nothing.
use Rattle.std.specs.Prelude.{Bool, true, false, ◌&&◌, List, [], ◌∷◌, ◌++◌, ℕ, eqb}
use Rattle.std.specs.Prelude.{Option, None, Some}
use Rattle.model.specs.Places.{map_o}
use Rattle.model.specs.Numbers.{Bytes}

-- one after another
abbrev pub flat : {A : Type 0} → (A → Bytes) → List A → Bytes
flat f [] = []
flat f (a ∷ l) = f a ++ flat f l

-- the stretches between the bytes s
abbrev pub onto : Bool → ℕ → List Bytes → List Bytes
onto true b ls = [] ∷ ls
onto false b [] = (b ∷ []) ∷ []
onto false b (l ∷ ls) = (b ∷ l) ∷ ls

unfoldable pub split : ℕ → Bytes → List Bytes
split s [] = [] ∷ []
split s (b ∷ bs) = onto (eqb b s) b (split s bs)

-- and the text of which they are the stretches
unfoldable pub join : ℕ → List Bytes → Bytes
join s [] = []
join s (x ∷ xs) = x ++ flat (λ (y : Bytes). s ∷ y) xs

-- the fields of a line, and the line of these fields
unfoldable pub fields_of : Bytes → List Bytes
fields_of l = split 9 l

unfoldable pub line_of : List Bytes → Bytes
line_of xs = join 9 xs

-- lines, each ended by a line feed
abbrev pub ended : Bytes → Bytes
ended l = l ++ (10 ∷ [])

unfoldable pub unlines : List Bytes → Bytes
unlines ls = flat ended ls

-- the lines of a text; nothing stands behind the last line feed
abbrev pub nothing : Bytes → Option (List Bytes)
nothing [] = Some []
nothing (b ∷ l) = None

unfoldable pub whole : List Bytes → Option (List Bytes)
whole [] = None
whole (l ∷ []) = nothing l
whole (l ∷ m ∷ ls) = map_o (λ (x : List Bytes). l ∷ x) (whole (m ∷ ls))

unfoldable pub lines : Bytes → Option (List Bytes)
lines bs = whole (split 10 bs)

-- two texts are alike
unfoldable pub is_text : Bytes → Bytes → Bool
is_text [] [] = true
is_text [] (b ∷ y) = false
is_text (a ∷ x) [] = false
is_text (a ∷ x) (b ∷ y) = eqb a b && is_text x y
