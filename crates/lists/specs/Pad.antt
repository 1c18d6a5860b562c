-- A list filled up to a length.
-- Assumes nothing.
use Rattle.std.specs.Prelude.{List, ◌++◌, ℕ, ◌-◌, length, replicate}

-- the list, with d after it up to n elements
unfoldable pub pad : {A : Type 0} → A → ℕ → List A → List A
pad d n l = l ++ replicate (n - length l) d
