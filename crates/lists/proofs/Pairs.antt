-- All pairs of two lists that are as long: the list of the pairs has them, which a chain over both goes through.
-- Assumes nothing.
use mathlib.Core.Path.{◌∙◌, ◌≡◌, ap, refl}
use mathlib.Core.Bool.{Bool, ◌&&◌}
use mathlib.Core.List.{List, [], ◌∷◌}
use native.Mathlib.Omega.{arith}
use lib.ListN.{length}
use Rattle.std.specs.List.{zip}
use Rattle.model.specs.Places.{all}
use Rattle.lists.specs.Folds.{all_pairs}

module _ {A B : Type 0} (p : A → B → Bool) where
  all_zip : (l : List A) (m : List B) → length l ≡ length m → all (λ (q : A × B). p q.0 q.1) (zip l m) ≡ all_pairs p l m
  all_zip [] [] h = refl
  all_zip [] (b ∷ m) h = absurd (omega arith)
  all_zip (a ∷ l) [] h = absurd (omega arith)
  all_zip (a ∷ l) (b ∷ m) h = ap (λ (x : Bool). p a b && x) (all_zip l m (omega arith))

  -- what a chain answers that tests the pairs
  pub from_zip : (r : Bool) (l : List A) (m : List B) → r ≡ all (λ (q : A × B). p q.0 q.1) (zip l m) → length l ≡ length m → r ≡ all_pairs p l m
  from_zip r l m e h = e ∙ all_zip l m h
