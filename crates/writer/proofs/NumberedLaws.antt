-- The lines of numbered places: those of each part that is there, by its number. One law for all kinds of part, and any number of places.
-- Assumes nothing.
use mathlib.Core.Path.{◌∙◌, ◌≡◌, ap, ap₂, refl, sym}
use mathlib.Core.Bool.{Bool, cond, false, true}
use mathlib.Core.List.{List, [], ◌++◌, ◌∷◌, append-nil, map}
use Rattle.std.specs.Prelude.{Option}
use Prim.Native.Nat.{◌+◌, suc, ℕ}
use native.Mathlib.Nat.{add-zero, zero-add}
use native.Mathlib.Omega.{arith}
use Rattle.model.specs.Lines.{flat}
use Rattle.model.specs.Numbers.{Bytes}
use Rattle.model.specs.Places.{when}
use Rattle.model.specs.Records.{first, later, numbered, of_option, single}
use Rattle.room.specs.Writing.{each}
use Rattle.entries.proofs.FlatLaws.{flat_append, flat_map}

-- ---- a part that may be absent
pub text_if : {A R : Type 0} (u : R → Bytes) (f : A → List R) (b : Bool) (a : A) → flat u (of_option f (when b a)) ≡ cond b (flat u (f a)) []
text_if u f true a = refl
text_if u f false a = refl

-- that is one record
pub line_if : {A : Type 0} (u : A → Bytes) (b : Bool) (a : A) → flat u (of_option single (when b a)) ≡ cond b (u a) []
line_if u true a = append-nil (u a)
line_if u false a = refl

-- ---- places: f has a part's records, h says which part a struct is, and g is the struct's text by its number
module _ {A R S : Type 0} (f : A → List R) (h : S → Option A) (g : ℕ → S → Bytes) where
  from : (u : ℕ × R → Bytes) (i : ℕ) (l : List S) → ((n : ℕ) (x : S) → flat (λ (r : R). u (n, r)) (of_option f (h x)) ≡ g (i + n) x)
      → flat u (numbered f (map h l)) ≡ each g i l
  unfolding each
  from u i [] e = refl
  from u i (x ∷ l) e =
      let one = of_option f (h x) in
      let others = numbered f (map h l) in
      let up : (n : ℕ) → i + suc n ≡ i + 1 + n = λ n. omega arith in
      flat_append u (map first one) (map later others)
      ∙ ap₂ (λ (s t : Bytes). s ++ t) (flat_map u first one ∙ e 0 x ∙ ap (λ (n : ℕ). g n x) (add-zero i))
      (flat_map u later others ∙ from (λ (y : ℕ × R). u (later y)) (i + 1) l (λ n y. e (suc n) y ∙ ap (λ (m : ℕ). g m y) (up n)))

  pub numbered-each : (u : ℕ × R → Bytes) (l : List S) → ((n : ℕ) (x : S) → flat (λ (r : R). u (n, r)) (of_option f (h x)) ≡ g n x)
      → flat u (numbered f (map h l)) ≡ each g 0 l
  numbered-each u l e = from u 0 l (λ n x. e n x ∙ ap (λ (m : ℕ). g m x) (sym (zero-add n)))
