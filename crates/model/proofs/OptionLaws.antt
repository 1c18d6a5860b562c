-- What a step that may refuse has made, taken apart.
-- Assumes nothing.
use mathlib.Core.Path.{◌≡◌, refl}
use mathlib.Core.Bool.{Bool, cond, false, true}
use Rattle.std.specs.Prelude.{Option, None, Some}
use Prim.Native.Nat.{ℕ}
use native.Mathlib.Omega.{arith}
use Rattle.model.specs.Places.{and_then, map_o}
use Rattle.model.specs.Records.{provided}

-- nothing is not something
pub nothing_is {ℓ} : {A : Type 0} {X : Type ℓ} {a : A} → None ≡ Some a → X
nothing_is e = absurd (let z : ◌≡◌ {A = ℕ} 0 1 = cc in omega arith)

module _ {A B : Type 0} where
  pub map-some : (f : A → B) (o : Option A) (b : B) → map_o f o ≡ Some b → (a : A) × (o ≡ Some a) × (f a ≡ b)
  map-some f None b e = nothing_is e
  map-some f (Some a) b e = (a, refl, cc)

  pub then_some : (o : Option A) (f : A → Option B) (b : B) → and_then o f ≡ Some b → (a : A) × (o ≡ Some a) × (f a ≡ Some b)
  then_some None f b e = nothing_is e
  then_some (Some a) f b e = (a, refl, e)

module _ {A : Type 0} where
  pub provided-some : (t : Bool) (o : Option A) (a : A) → provided t o ≡ Some a → (t ≡ true) × (o ≡ Some a)
  provided-some true o a e = (refl, e)
  provided-some false o a e = nothing_is e

  pub cond-some : (t : Bool) (o : Option A) (a : A) → cond t o None ≡ Some a → (t ≡ true) × (o ≡ Some a)
  cond-some true o a e = (refl, e)
  cond-some false o a e = nothing_is e

pub map-twice : {A B C : Type 0} (g : B → C) (f : A → B) (o : Option A) → map_o g (map_o f o) ≡ map_o (λ (a : A). g (f a)) o
map-twice g f None = refl
map-twice g f (Some a) = refl
