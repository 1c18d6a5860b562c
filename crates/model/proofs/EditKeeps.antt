-- What changes of rows keep: a test of each row, a test of each field, and that a berth has no more rows than before.
-- Assumes nothing.
use mathlib.Core.Path.{◌≡◌, refl}
use mathlib.Core.Bool.{Bool, ◌&&◌, cond, false, not, true}
use mathlib.Core.List.{List, [], ◌∷◌}
use Rattle.std.specs.Prelude.{Option, None, Some}
use Prim.Native.Nat.{◌≤◌, zero, ℕ}
use native.Mathlib.Nat.{le_refl, le_trans}
use lib.Dec.{eqb}
use borrow.Author.Tests.{eqb-true}
use Rattle.model.specs.declared.Class.{Class}
use Rattle.model.specs.declared.Field.{Field}
use Rattle.model.specs.Places.{all, has, push, tick, when}
use Rattle.model.specs.Classes.{dominates, same}
use Rattle.model.specs.Parts.{Row}
use Rattle.model.specs.Rules.{in_berth}
use Rattle.model.specs.Commands.{Change, Given, New}
use Rattle.model.specs.Checks.{own}
use Rattle.model.specs.Effects.{amend, amend_row, edit, entry_for, given, lets, put, renew, strike, touch}
use Rattle.model.proofs.Tests.{and-fst, and-snd}
use Rattle.model.proofs.AllLaws.{all_push, unless, unless-cond, unless-when}
use Rattle.model.proofs.RuleLaws.{le_tick, tick_le}

-- ---- the walk
module _ (c : Class) (f : ℕ → Row → Option Row) where
  pub edit-rows : (p : Row → Bool) → ((k : ℕ) (r : Row) → p r ≡ true → unless p (f k r) ≡ true)
      → (k : ℕ) (rs : List Row) → all p rs ≡ true → all p (edit c f k rs) ≡ true
  unfolding edit touch
  edit-rows p each k [] e = e
  edit-rows p each k (r ∷ rs) e =
      all_push p (touch (dominates c r.exist) f k r) (edit c f (tick (dominates c r.exist) k) rs) (touched (dominates c r.exist))
      (edit-rows p each (tick (dominates c r.exist) k) rs (and-snd (p r) (all p rs) e))
    where
      touched : (b : Bool) → unless p (touch b f k r) ≡ true
      touched true = each k r (and-fst (p r) (all p rs) e)
      touched false = and-fst (p r) (all p rs) e

  pub edit_fewer : (b : Class) → ((k : ℕ) (r : Row) (l : List Row) → in_berth b (push (f k r) l) ≤ in_berth b (r ∷ l))
      → (k : ℕ) (rs : List Row) → in_berth b (edit c f k rs) ≤ in_berth b rs
  unfolding edit touch in_berth
  edit_fewer b each k [] = le_refl zero
  edit_fewer b each k (r ∷ rs) = le_trans (touched d) (tick_le (same r.exist b) (edit_fewer b each (tick d k) rs))
    where
      d : Bool
      d = dominates c r.exist

      rest : List Row
      rest = edit c f (tick d k) rs

      touched : (x : Bool) → in_berth b (push (touch x f k r) rest) ≤ in_berth b (r ∷ rest)
      touched true = each k r rest
      touched false = le_refl (in_berth b (r ∷ rest))

-- ---- delete
module _ (c : Class) (is : List ℕ) where
  pub strike-rows : (p : Row → Bool) (k : ℕ) (r : Row) → p r ≡ true → unless p (strike c is k r) ≡ true
  unfolding strike
  strike-rows p k r e = unless-when p (not (has k is && own c r)) r (λ h. e)

  pub strike_fewer : (b : Class) (k : ℕ) (r : Row) (l : List Row) → in_berth b (push (strike c is k r) l) ≤ in_berth b (r ∷ l)
  unfolding strike in_berth
  strike_fewer b k r l = go (not (has k is && own c r))
    where
      go : (x : Bool) → in_berth b (push (when x r) l) ≤ in_berth b (r ∷ l)
      go true = le_refl (in_berth b (r ∷ l))
      go false = le_tick (same r.exist b) (in_berth b l)

-- ---- update
pub amend_fewer : (c : Class) (es : List Change) (b : Class) (k : ℕ) (r : Row) (l : List Row) → in_berth b (push (amend c es k r) l) ≤ in_berth b (r ∷ l)
unfolding amend amend_row in_berth
amend_fewer c es b k r l = le_refl (in_berth b (r ∷ l))

-- the entry for a place passes where each entry of its column does
pub entry_passes : (i j : ℕ) (p : Change → Bool) (q : New → Bool) → ((e : Change) → e.column ≡ j → p e ≡ true → q e.new ≡ true)
    → (es : List Change) → all p es ≡ true → unless q (entry_for es i j) ≡ true
unfolding entry_for
entry_passes i j p q each [] h = refl
entry_passes i j p q each (e ∷ es) h =
    unless-cond q (eqb e.row i && eqb e.column j) e.new (entry_for es i j)
    (λ x. each e (eqb-true e.column j (and-snd (eqb e.row i) (eqb e.column j) x)) (and-fst (p e) (all p es) h))
    (entry_passes i j p q each es (and-snd (p e) (all p es) h))

-- a field passes where it did, and where what is put into it does
pub renew_passes : (q : Field → Bool) (c : Class) (mine : Bool) (o : Option New) (f : Field)
    → unless (λ (n : New). q (put n f)) o ≡ true → q f ≡ true → q (renew c mine o f) ≡ true
unfolding renew
renew_passes q c mine None f h e = e
renew_passes q c mine (Some n) f h e = go (lets c mine n f)
  where
    go : (b : Bool) → q (cond b (put n f) f) ≡ true
    go true = h
    go false = e

-- ---- insert: the field given for a column passes where each given for it does
pub given_passes : (j : ℕ) (p : Given → Bool) (q : Field → Bool) → ((g : Given) → g.column ≡ j → p g ≡ true → q g.field ≡ true)
    → (gs : List Given) → all p gs ≡ true → unless q (given gs j) ≡ true
unfolding given
given_passes j p q each [] h = refl
given_passes j p q each (g ∷ gs) h =
    unless-cond q (eqb g.column j) g.field (given gs j)
    (λ x. each g (eqb-true g.column j x) (and-fst (p g) (all p gs) h))
    (given_passes j p q each gs (and-snd (p g) (all p gs) h))
