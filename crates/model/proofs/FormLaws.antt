-- When a form's writing and reading agree, and that forms put together agree if their parts do.
-- Assumes nothing.
use mathlib.Core.Path.{◌∙◌, ◌≡◌, ap, ap₂, refl, sym}
use mathlib.Core.Bool.{Bool, cond, false, true}
use mathlib.Core.List.{List, [], ◌∷◌}
use Rattle.std.specs.Prelude.{Some}
use Prim.Native.Nat.{ℕ}
use lib.Dec.{eqb}
use borrow.Author.Tests.{eqb-true}
use Rattle.model.specs.Places.{and_then}
use Rattle.model.specs.Numbers.{Bytes}
use Rattle.model.specs.Forms.{Fields, Form, ◌then◌, only, parse_only, parse_then, pick}
use Rattle.model.specs.Conditions.{Every}
use Rattle.model.proofs.OptionLaws.{nothing_is, then_some}
use Rattle.model.proofs.LineLaws.{Clean}

-- a thing in range is read from its text; only its text is read as it; what is read is in range; no text has tabs or line feeds
pub record Sure {A : Type 0} (f : Form A) (In : A → Type 0) : Type 0 where
  pub there : (a : A) → In a → f.read (f.text a) ≡ Some a
  pub back : (s : Bytes) (a : A) → f.read s ≡ Some a → f.text a ≡ s
  pub sound : (s : Bytes) (a : A) → f.read s ≡ Some a → In a
  pub clean : (a : A) → Clean (f.text a)

pub record Sures {A : Type 0} (g : Fields A) (In : A → Type 0) : Type 0 where
  pub there : (a : A) → In a → g.parse (g.write a) ≡ Some a
  pub back : (l : List Bytes) (a : A) → g.parse l ≡ Some a → g.write a ≡ l
  pub sound : (l : List Bytes) (a : A) → g.parse l ≡ Some a → In a
  pub clean : (a : A) → Every Clean (g.write a)

module _ {A B : Type 0} {f : Form A} {g : Fields B} {P : A → Type 0} {Q : B → Type 0} where
  infixr 20 ◌also◌
  pub ◌also◌ : Sure f P → Sures g Q → Sures (f then g) (λ (x : A × B). P x.0 × Q x.1)
  ◌also◌ u v = record { there = there; back = back; sound = sound; clean = λ x. (u.clean x.0, v.clean x.1) }
    where
      there : (x : A × B) → P x.0 × Q x.1 → parse_then f g (f.text x.0 ∷ g.write x.1) ≡ Some x
      there x h = rw (u.there x.0 h.0, v.there x.1 h.1)

      -- both parts were read
      parts : (s : Bytes) (l : List Bytes) (x : A × B) → parse_then f g (s ∷ l) ≡ Some x → (f.read s ≡ Some x.0) × (g.parse l ≡ Some x.1)
      parts s l x e =
          let (a, p, y) = then_some (f.read s) (λ (a : A). and_then (g.parse l) (λ (b : B). Some (a, b))) x e in
          let (b, q, z) = then_some (g.parse l) (λ (b : B). Some (a, b)) x y in
          let i : (a, b) ≡ x = cc in
          (p ∙ ap (λ (x : A × B). Some x.0) i, q ∙ ap (λ (x : A × B). Some x.1) i)

      back : (l : List Bytes) (x : A × B) → parse_then f g l ≡ Some x → f.text x.0 ∷ g.write x.1 ≡ l
      back [] x e = nothing_is e
      back (s ∷ l) x e = let (p, q) = parts s l x e in ap₂ (λ (s : Bytes) (l : List Bytes). s ∷ l) (u.back s x.0 p) (v.back l x.1 q)

      sound : (l : List Bytes) (x : A × B) → parse_then f g l ≡ Some x → P x.0 × Q x.1
      sound [] x e = nothing_is e
      sound (s ∷ l) x e = let (p, q) = parts s l x e in (u.sound s x.0 p, v.sound l x.1 q)

pub sure-only : {A : Type 0} {f : Form A} {P : A → Type 0} → Sure f P → Sures (only f) P
sure-only {A} {f} {P} u = record { there = u.there; back = back; sound = sound; clean = λ a. (u.clean a, tt) }
  where
    back : (l : List Bytes) (a : A) → parse_only f l ≡ Some a → f.text a ∷ [] ≡ l
    back [] a e = nothing_is e
    back (s ∷ []) a e = ap (λ (s : Bytes). s ∷ []) (u.back s a e)
    back (s ∷ t ∷ l) a e = nothing_is e

    sound : (l : List Bytes) (a : A) → parse_only f l ≡ Some a → P a
    sound [] a e = nothing_is e
    sound (s ∷ []) a e = u.sound s a e
    sound (s ∷ t ∷ l) a e = nothing_is e

-- a byte that was found in a list is the one that stands for what it was read as
module _ {A : Type 0} (byte : A → ℕ) where
  abbrev pub Agree : List (ℕ × A) → Type 0
  Agree l = Every (λ (x : ℕ × A). byte x.1 ≡ x.0) l

  pub picked : (l : List (ℕ × A)) → Agree l → (b : ℕ) (a : A) → pick l b ≡ Some a → byte a ≡ b
  picked [] h b a e = nothing_is e
  picked (x ∷ l) h b a e = go (eqb b x.0) refl (picked l h.1 b a) e
    where
      go : (t : Bool) → eqb b x.0 ≡ t → (pick l b ≡ Some a → byte a ≡ b) → cond t (Some x.1) (pick l b) ≡ Some a → byte a ≡ b
      go true q ih e = let z : x.1 ≡ a = cc in ap byte (sym z) ∙ h.0 ∙ sym (eqb-true b x.0 q)
      go false q ih e = ih e
