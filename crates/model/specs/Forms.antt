-- A form says how a thing is written and how it is read: of one field of a line, or of all that are left of it.
-- Assumes nothing.
use Rattle.std.specs.Prelude.{cond, List, [], ◌∷◌, ℕ, eqb}
use Rattle.std.specs.Prelude.{Option, None, Some}
use Rattle.model.specs.Places.{and_then}
use Rattle.model.specs.Numbers.{Bytes}

infixl 1 ◌>>=◌
abbrev pub ◌>>=◌ : {A B : Type 0} → Option A → (A → Option B) → Option B
o >>= f = and_then o f

-- one field
pub record Form (A : Type 0) : Type 0 where
  pub text : A → Bytes
  pub read : Bytes → Option A

-- all the fields that are left of a line
pub record Fields (A : Type 0) : Type 0 where
  pub write : A → List Bytes
  pub parse : List Bytes → Option A

-- one field, then others
module _ {A B : Type 0} (f : Form A) (g : Fields B) where
  abbrev pub parse_then : List Bytes → Option (A × B)
  parse_then [] = None
  parse_then (s ∷ l) = do
    a ← f.read s
    b ← g.parse l
    Some (a, b)

infixr 20 ◌then◌
abbrev pub ◌then◌ : {A B : Type 0} → Form A → Fields B → Fields (A × B)
f then g = record { write = λ (x : _ × _). f.text x.0 ∷ g.write x.1; parse = parse_then f g }

-- one field, the last
module _ {A : Type 0} (f : Form A) where
  abbrev pub parse_only : List Bytes → Option A
  parse_only [] = None
  parse_only (s ∷ []) = f.read s
  parse_only (s ∷ t ∷ l) = None

  abbrev pub only : Fields A
  only = record { write = λ (a : A). f.text a ∷ []; parse = parse_only }

-- what a byte stands for, by a list
abbrev pub pick : {A : Type 0} → List (ℕ × A) → ℕ → Option A
pick [] b = None
pick (x ∷ l) b = cond (eqb b x.0) (Some x.1) (pick l b)
