-- Two texts are alike where the library's `==` on bytes says so.
-- Assumes nothing.
use mathlib.Core.Path.{◌≡◌, ap, refl}
use mathlib.Core.Bool.{◌&&◌}
use mathlib.Core.List.{[], ◌∷◌}
use lib.Dec.{eqb}
use lib.Pointwise.{pointwise}
use Rattle.model.specs.Lines.{is_text}
use Rattle.model.specs.Numbers.{Bytes}

pub text_alike : (s t : Bytes) → is_text s t ≡ pointwise eqb s t
unfolding is_text
text_alike [] [] = refl
text_alike [] (b ∷ y) = refl
text_alike (a ∷ x) [] = refl
text_alike (a ∷ x) (b ∷ y) = ap (λ z. eqb a b && z) (text_alike x y)
