-- How forms are read by steps: one field and then others, and one field or two that are the last of a line.
-- Assumes nothing.
use mathlib.Core.Path.{◌∙◌, ◌≡◌, ap, refl}
use mathlib.Core.List.{List, [], ◌∷◌}
use Rattle.std.specs.Prelude.{Option, None, Some}
use Rattle.model.specs.Forms.{Fields, Form, only, parse_only, parse_then}
use Rattle.model.specs.Numbers.{Bytes}
use Rattle.model.specs.Places.{and_then, map_o}
use Rattle.steps.specs.Steps.{Step, both_by, first_by, next_by}

-- ---- what is left behind a step
-- what was read, if nothing is left
abbrev pub last_of : {A : Type 0} → A × List Bytes → Option A
last_of (a, []) = Some a
last_of (a, x ∷ l) = None

-- what was read, with the others read on
abbrev pub onwards : {A B : Type 0} → Fields B → A × List Bytes → Option (A × B)
onwards g x = map_o (λ (b : _). (x.0, b)) (g.parse x.1)

-- ---- one field
module _ {A : Type 0} (f : Form A) where
  pub only_by : (l : List Bytes) → parse_only f l ≡ and_then (first_by f l) last_of
  only_by [] = refl
  only_by (x ∷ []) = go (f.read x)
    where
      go : (o : Option A) → o ≡ and_then (map_o (λ (a : A). (a, [])) o) last_of
      go None = refl
      go (Some a) = refl
  only_by (x ∷ y ∷ l) = go (f.read x)
    where
      go : (o : Option A) → None ≡ and_then (map_o (λ (a : A). (a, y ∷ l)) o) last_of
      go None = refl
      go (Some a) = refl

  pub then_by : {B : Type 0} (g : Fields B) (l : List Bytes) → parse_then f g l ≡ and_then (first_by f l) (onwards g)
  then_by g [] = refl
  then_by {B} g (x ∷ l) = go (f.read x)
    where
      pair : (a : A) (q : Option B) → and_then {B = A × B} q (λ (b : B). Some (a, b)) ≡ map_o (λ (b : B). (a, b)) q
      pair a None = refl
      pair a (Some b) = refl

      go : (o : Option A) → and_then {B = A × B} o (λ (a : A). and_then (g.parse l) (λ (b : B). Some (a, b))) ≡ and_then (map_o (λ (a : A). (a, l)) o) (onwards g)
      go None = refl
      go (Some a) = pair a (g.parse l)

-- ---- two fields
module _ {A B : Type 0} (f : Form A) (g : Form B) where
  pub both-only : (l : List Bytes) → parse_then f (only g) l ≡ and_then (both_by f g l) last_of
  both-only l = then_by f (only g) l ∙ go (first_by f l)
    where
      last : (a : A) (o : Step B) → map_o {B = A × B} (λ (b : B). (a, b)) (and_then o last_of) ≡ and_then {A = (A × B) × List Bytes} (map_o (λ (y : B × List Bytes). ((a, y.0), y.1)) o) last_of
      last a None = refl
      last a (Some (b, [])) = refl
      last a (Some (b, x ∷ l)) = refl

      go : (o : Step A) → and_then o (onwards (only g)) ≡ and_then (and_then o (next_by g)) last_of
      go None = refl
      go (Some x) = ap (map_o (λ (b : B). (x.0, b))) (only_by g x.1) ∙ last x.0 (first_by g x.1)
