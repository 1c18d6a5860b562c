-- Steps along a line: the first of the fields that are left is read, and the others are left then.
-- Assumes nothing.
use Rattle.std.specs.Prelude.{◌≡◌, IfNone, Bool, true, false, List, [], ◌∷◌, ℕ}
use Rattle.std.specs.Prelude.{Option, None, Some}
use Rattle.model.specs.declared.Class.{Class}
use Rattle.model.specs.declared.Field.{Field}
use Rattle.model.specs.declared.Value.{Value}
use Rattle.model.specs.Forms.{◌>>=◌, Form}
use Rattle.model.specs.Numbers.{Bytes}
use Rattle.model.specs.Places.{map_o}
use Rattle.text.specs.Fields.{fields_at}
use Rattle.steps.specs.declared.Reader.{Reader}

-- ---- a step: what was read, and the fields that are left
abbrev pub Step : Type 0 → Type 0
Step A = Option (A × List Bytes)

-- the first field, by a form
abbrev pub first_by : {A : Type 0} → Form A → List Bytes → Step A
first_by f [] = None
first_by f (x ∷ l) = map_o (λ (a : _). (a, l)) (f.read x)

-- one more field, beside what was read before
abbrev pub next_by : {A B : Type 0} → Form B → A × List Bytes → Step (A × B)
next_by g x = map_o (λ (y : _ × List Bytes). ((x.0, y.0), y.1)) (first_by g x.1)

-- the first two, each by its form
abbrev pub both_by : {A B : Type 0} → Form A → Form B → List Bytes → Step (A × B)
both_by f g l = first_by f l >>= next_by g

-- a field of one byte
abbrev pub alone : Bytes → Option ℕ
alone [] = None
alone (b ∷ []) = Some b
alone (b ∷ d ∷ l) = None

abbrev pub byte : Form ℕ
byte = record { text = λ (b : ℕ). b ∷ []; read = alone }

-- ---- what is left before a reader
abbrev pub left : Reader → List Bytes
left r = fields_at 9 r.line.now r.at

-- nothing is
abbrev pub none_left : List Bytes → Bool
none_left [] = true
none_left (x ∷ l) = false

-- ---- what a reader took off what is left, as `step` says; where that is nothing, it stays where it was
abbrev pub Takes : {A : Type 0} → (List Bytes → Step A) → Reader → Option A → Reader → Type 0
Takes step old got new = (map_o (λ (a : _). (a, left new)) got ≡ step (left old)) × (new.line ≡ old.line) × IfNone got (new ≡ old)

-- a field of the store as what was read of it
abbrev pub of_field : Field → Class × Value
of_field f = (f.class, f.value)
