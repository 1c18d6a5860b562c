-- The texts of a list one after another: of two lists, and of changed elements.
-- Assumes nothing.
use mathlib.Core.Path.{◌∙◌, ◌≡◌, ap, refl, sym}
use mathlib.Core.List.{List, [], ◌++◌, ◌∷◌, append_assoc, map}
use Rattle.model.specs.Lines.{flat}
use Rattle.model.specs.Numbers.{Bytes}

pub flat_append : {A : Type 0} (f : A → Bytes) (l m : List A) → flat f (l ++ m) ≡ flat f l ++ flat f m
flat_append f [] m = refl
flat_append f (x ∷ l) m = ap (λ (t : Bytes). f x ++ t) (flat_append f l m) ∙ sym (append_assoc (f x) (flat f l) (flat f m))

pub flat_map : {A B : Type 0} (f : B → Bytes) (g : A → B) (l : List A) → flat f (map g l) ≡ flat (λ (x : A). f (g x)) l
flat_map f g [] = refl
flat_map f g (x ∷ l) = ap (λ (t : Bytes). f (g x) ++ t) (flat_map f g l)
