-- The walk that counts visible rows as it meets them gives each row the number of visible rows before it.
-- Assumes nothing.
use mathlib.Core.Path.{◌∙◌, ◌≡◌, ap, ap₂, refl, sym}
use mathlib.Core.Bool.{Bool, false, true}
use mathlib.Core.List.{List, [], ◌++◌, ◌∷◌, append_assoc}
use Rattle.std.specs.Prelude.{Option}
use Prim.Native.Nat.{suc, zero, ℕ}
use native.Mathlib.Omega.{arith}
use lib.ListN.{length, length-append, take}
use Rattle.model.specs.declared.Class.{Class}
use Rattle.model.specs.Places.{gather, push, tick, when}
use Rattle.model.specs.Classes.{dominates}
use Rattle.model.specs.Parts.{Row}
use Rattle.model.specs.Answers.{Shown, numbered_from}
use Rattle.model.specs.Effects.{edit, touch}
use Rattle.model.specs.Plainly.{plainly, visible_before}

module _ {A : Type 0} where
  take_before : (l m : List A) → take (length l) (l ++ m) ≡ l
  take_before [] m = refl
  take_before (a ∷ l) m = ap (λ (x : List A). a ∷ x) (take_before l m)

module _ (c : Class) where
  abbrev sees : Row → Option Row
  sees r = when (dominates c r.exist) r

  abbrev count : List Row → ℕ
  count l = length (gather sees l)

  count_next : (l : List Row) (r : Row) → count (l ++ (r ∷ [])) ≡ tick (dominates c r.exist) (count l)
  count_next [] r = one (dominates c r.exist)
    where
      one : (b : Bool) → length (push (when b r) []) ≡ tick b 0
      one true = refl
      one false = refl
  count_next (a ∷ l) r = go (dominates c a.exist) (dominates c r.exist) (count_next l r)
    where
      go : (x y : Bool) → count (l ++ (r ∷ [])) ≡ tick y (count l) → length (push (when x a) (gather sees (l ++ (r ∷ [])))) ≡ tick y (length (push (when x a) (gather sees l)))
      go true true ih = ap suc ih
      go true false ih = ap suc ih
      go false y ih = ih

  module _ (f : ℕ → Row → Option Row) where
    -- the rows before, and those that the walk has still to meet
    from : (before rest : List Row)
        → edit c f (count before) rest
        ≡ gather (λ (x : Shown). touch (dominates c x.row.exist) f (visible_before c (before ++ rest) x.number) x.row) (numbered_from (length before) rest)
    unfolding edit numbered_from visible_before
    from before [] = refl
    from before (r ∷ rest) = ap₂ push here (next (from (before ++ (r ∷ [])) rest))
      where
        g : List Row → Shown → Option Row
        g all x = touch (dominates c x.row.exist) f (visible_before c all x.number) x.row

        here : touch (dominates c r.exist) f (count before) r ≡ touch (dominates c r.exist) f (count (take (length before) (before ++ (r ∷ rest)))) r
        here = rw take_before

        next : edit c f (count (before ++ (r ∷ []))) rest ≡ gather (g ((before ++ (r ∷ [])) ++ rest)) (numbered_from (length (before ++ (r ∷ []))) rest)
            → edit c f (tick (dominates c r.exist) (count before)) rest ≡ gather (g (before ++ (r ∷ rest))) (numbered_from (suc (length before)) rest)
        next ih =
            let e : (before ++ (r ∷ [])) ++ rest ≡ before ++ (r ∷ rest) = append_assoc before (r ∷ []) rest in
            let n : length (before ++ (r ∷ [])) ≡ suc (length before) = length-append before (r ∷ []) ∙ omega arith in
            ap (λ (k : ℕ). edit c f k rest) (sym (count_next before r))
            ∙ ih
            ∙ ap₂ (λ (all : List Row) (m : ℕ). gather (g all) (numbered_from m rest)) e n

  pub walk_plainly : (f : ℕ → Row → Option Row) (rows : List Row) → edit c f zero rows ≡ plainly c f rows
  unfolding plainly
  walk_plainly f rows = from f [] rows
