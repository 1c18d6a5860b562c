-- How a change of a table's rows is seen by another clearance.
-- `C` looks on and `c` changes. Where C dominates c, what C sees after the change is told by what it saw before (`steady`):
-- seeing after the change of the rows and seeing after the change of the rows seen are one. Where C does not dominate c,
-- C sees no change (`silent`).
-- Assumes nothing.
use mathlib.Core.Path.{◌∙◌, ◌≡◌, ap, ap₂, refl, sym}
use mathlib.Core.Bool.{Bool, ◌&&◌, ◌||◌, cond, false, not, true}
use mathlib.Core.List.{List, [], ◌++◌, ◌∷◌, append-nil}
use Rattle.std.specs.Prelude.{Option, None, Some}
use Prim.Native.Nat.{suc, zero, ℕ}
use Rattle.model.specs.declared.Class.{Class}
use Rattle.model.specs.declared.Field.{Field}
use Rattle.model.specs.declared.Value.TheVariants.{Hidden}
use Rattle.model.specs.Places.{Places, and_then, gather, has, map_o, on_places, or_else, push, tick, when}
use Rattle.model.specs.Classes.{dominates, same}
use Rattle.model.specs.Values.{hide}
use Rattle.model.specs.Parts.{Column, Row}
use Rattle.model.specs.View.{cut, view_field, view_fields, view_row}
use Rattle.model.specs.Commands.{Action, Change, New, delete, insert, new_class, new_field, new_value, select, update}
use Rattle.model.specs.Checks.{own}
use Rattle.model.specs.Effects.{amend, amend_row, edit, entry_for, fill, given, lets, new_row, new_rows, put, renew, renew_all, strike, touch}
use Rattle.model.proofs.Tests.{fails}
use Rattle.model.proofs.OrderLaws.{dominates_trans, same_eq}
use Rattle.model.proofs.PlaceLaws.{gather_append, gather-push, gather-two}

-- ---- to look twice is to look once
module _ (C : Class) where
  hide_again : (f : Field) → hide C (hide C f) ≡ hide C f
  unfolding hide
  hide_again f = λ i. record { class = f.class; value = once (dominates C f.class) i }
    where
      once : (a : Bool) → cond a (cond a f.value Hidden) Hidden ≡ cond a f.value Hidden
      once true = refl
      once false = refl

  field_again : (k : Option Column) (f : Option Field) → view_field C k (view_field C k f) ≡ view_field C k f
  unfolding view_field
  field_again None f = refl
  field_again (Some k) None = refl
  field_again (Some k) (Some f) = ap Some (hide_again f)

  fields_again : (ks : Places Column) (fs : Places Field) → view_fields C ks (view_fields C ks fs) ≡ view_fields C ks fs
  unfolding view_fields
  fields_again [] fs = refl
  fields_again (k ∷ ks) [] = refl
  fields_again (k ∷ ks) (f ∷ fs) = ap₂ (λ (o : Option Field) (l : Places Field). o ∷ l) (field_again k f) (fields_again ks fs)

  cut_again : (ks : Places Column) (r : Row) → view_row C ks (cut C ks r) ≡ view_row C ks r
  unfolding view_row cut
  cut_again ks r = rw fields_again

  module _ (ks : Places Column) (r : Row) where
    row_seen : dominates C r.exist ≡ true → view_row C ks r ≡ Some (cut C ks r)
    unfolding view_row
    row_seen p = rw p

    row-unseen : dominates C r.exist ≡ false → view_row C ks r ≡ None
    unfolding view_row
    row-unseen p = rw p

    row_again : and_then (view_row C ks r) (view_row C ks) ≡ view_row C ks r
    row_again = go (dominates C r.exist) refl
      where
        go : (a : Bool) → dominates C r.exist ≡ a → and_then (view_row C ks r) (view_row C ks) ≡ view_row C ks r
        go true p = rw (row_seen p) (cut_again ks r ∙ row_seen p)
        go false p = rw (row-unseen p)

  pub rows_again : (ks : Places Column) (rs : List Row) → gather (view_row C ks) (gather (view_row C ks) rs) ≡ gather (view_row C ks) rs
  rows_again ks rs = gather-two (view_row C ks) (view_row C ks) (view_row C ks) (row_again ks) rs

-- ---- C dominates c
module _ (C c : Class) (above : dominates C c ≡ true) (ks : Places Column) where
  abbrev vr : Row → Option Row
  vr = view_row C ks

  -- what C does not see, c does not see
  unseen : (x : Class) → dominates C x ≡ false → dominates c x ≡ false
  unseen x p = fails (dominates c x) (dominates C x) (λ q. dominates_trans C c x above q) p

  abbrev Steady : (ℕ → Row → Option Row) → Type 0
  Steady f = (k : ℕ) (r : Row) → and_then (f k r) vr ≡ and_then (f k (cut C ks r)) vr

  edit_steady : (f : ℕ → Row → Option Row) → Steady f → (k : ℕ) (rs : List Row) → gather vr (edit c f k rs) ≡ gather vr (edit c f k (gather vr rs))
  unfolding edit touch cut
  edit_steady f each k [] = refl
  edit_steady f each k (r ∷ rs) =
      gather-push vr (touch b f k r) (edit c f (tick b k) rs) ∙ go (λ n. edit_steady f each n rs) (dominates C r.exist) refl
    where
      b : Bool
      b = dominates c r.exist

      touched : (b : Bool) → and_then (touch b f k r) vr ≡ and_then (touch b f k (cut C ks r)) vr
      touched true = each k r
      touched false = sym (cut_again C ks r)

      go : ((n : ℕ) → gather vr (edit c f n rs) ≡ gather vr (edit c f n (gather vr rs))) → (a : Bool) → dominates C r.exist ≡ a
          → push (and_then (touch b f k r) vr) (gather vr (edit c f (tick b k) rs)) ≡ gather vr (edit c f k (push (vr r) (gather vr rs)))
      go ih true p =
          rw (row_seen C ks r p)
          (ap₂ push (touched b) (ih (tick b k)) ∙ sym (gather-push vr (touch b f k (cut C ks r)) (edit c f (tick b k) (gather vr rs))))
      go ih false p = rw (unseen r.exist p, row-unseen C ks r p) (ih k)

  strike_steady : (is : List ℕ) → Steady (strike c is)
  unfolding strike own cut
  strike_steady is k r = go (not (has k is && own c r))
    where
      go : (b : Bool) → and_then (when b r) vr ≡ and_then (when b (cut C ks r)) vr
      go true = sym (cut_again C ks r)
      go false = refl

  -- a field as an entry makes it
  renew_steady : (mine : Bool) (o : Option New) (f : Field) → hide C (renew c mine o f) ≡ hide C (renew c mine o (hide C f))
  unfolding renew lets put hide
  renew_steady mine None f = sym (hide_again C f)
  renew_steady mine (Some (new_class k)) f = go mine (dominates c f.class) refl
    where
      -- c sees the value, and so does C
      go : (mine b : Bool) → dominates c f.class ≡ b → hide C (renew c mine (Some (new_class k)) f) ≡ hide C (renew c mine (Some (new_class k)) (hide C f))
      go true true p = rw (p, dominates_trans C c f.class above p)
      go true false p = rw p (sym (hide_again C f))
      go false b p = sym (hide_again C f)
  renew_steady mine (Some (new_value v)) f = go (mine || dominates f.class c)
    where
      go : (b : Bool) → hide C (cond b (record { class = f.class; value = v }) f) ≡ hide C (cond b (record { class = f.class; value = v }) (hide C f))
      go true = refl
      go false = sym (hide_again C f)
  renew_steady mine (Some (new_field g)) f = go mine
    where
      go : (b : Bool) → hide C (cond b g f) ≡ hide C (cond b g (hide C f))
      go true = refl
      go false = sym (hide_again C f)

  -- the fields of a row
  fields_steady : (mine : Bool) (g : ℕ → Option New) (l : Places Column) (fs : Places Field)
      → view_fields C l (renew_all c mine g fs) ≡ view_fields C l (renew_all c mine g (view_fields C l fs))
  unfolding view_fields view_field renew_all
  fields_steady mine g [] fs = refl
  fields_steady mine g (k ∷ l) [] = refl
  fields_steady mine g (k ∷ l) (f ∷ fs) = ap₂ (λ (o : Option Field) (m : Places Field). o ∷ m) (one k f) (fields_steady mine (λ (j : ℕ). g (suc j)) l fs)
    where
      one : (k : Option Column) (f : Option Field) → view_field C k (map_o (renew c mine (g zero)) f) ≡ view_field C k (map_o (renew c mine (g zero)) (view_field C k f))
      one None f = refl
      one (Some k) None = refl
      one (Some k) (Some f) = ap Some (renew_steady mine (g zero) f)

  amend_steady : (es : List Change) → Steady (amend c es)
  unfolding amend amend_row own view_row cut
  amend_steady es k r =
      ap (λ (fs : Places Field). when (dominates C r.exist) (record { exist = r.exist; fields = fs }))
      (fields_steady (own c r) (entry_for es k) ks r.fields)

  -- a new row: columns that C does not see leave no trace; h keeps a column or not
  fill_steady : (p : Column → Bool) (g : ℕ → Option Field) (l : Places Column)
      → view_fields C (on_places (λ (k : Column). when (p k) k) l) (fill g l) ≡ view_fields C (on_places (λ (k : Column). when (p k) k) l) (fill g (on_places (λ (k : Column). when (p k) k) l))
  unfolding view_fields view_field fill
  fill_steady p g [] = refl
  fill_steady p g (None ∷ l) = ap (λ (m : Places Field). None ∷ m) (fill_steady p (λ (j : ℕ). g (suc j)) l)
  fill_steady p g (Some k ∷ l) = ap₂ (λ (o : Option Field) (m : Places Field). o ∷ m) (one (p k)) (fill_steady p (λ (j : ℕ). g (suc j)) l)
    where
      φ : Column → Field
      φ x = or_else (g zero) x.default

      one : (b : Bool) → view_field C (when b k) (Some (φ k)) ≡ view_field C (when b k) (map_o φ (when b k))
      one true = refl
      one false = refl

-- l: all columns; those that C sees are the ones that pass the test p
module _ (C c : Class) (above : dominates C c ≡ true) (p : Column → Bool) (l : Places Column) where
  abbrev kept : Places Column
  kept = on_places (λ (k : Column). when (p k) k) l

  pub new_rows_steady : (a : Action) (rs : List Row)
      → gather (view_row C kept) (new_rows c a l rs) ≡ gather (view_row C kept) (new_rows c a kept (gather (view_row C kept) rs))
  unfolding new_rows new_row view_row cut
  new_rows_steady (insert gs) rs =
      gather_append (view_row C kept) rs (row l ∷ [])
      ∙ ap₂ (λ (x y : List Row). x ++ y) (sym (rows_again C kept rs))
      (ap (λ (fs : Places Field). push (when (dominates C c) (record { exist = c; fields = fs })) []) (fill_steady C c above kept p (given gs) l))
      ∙ sym (gather_append (view_row C kept) (gather (view_row C kept) rs) (row kept ∷ []))
    where
      row : Places Column → Row
      row x = new_row c gs x
  new_rows_steady (delete is) rs = edit_steady C c above kept (strike c is) (strike_steady C c above kept is) zero rs
  new_rows_steady (update es) rs = edit_steady C c above kept (amend c es) (amend_steady C c above kept es) zero rs
  new_rows_steady (select q) rs = sym (rows_again C kept rs)

-- ---- C does not dominate c
module _ (C c : Class) (aside : dominates C c ≡ false) (ks : Places Column) where
  abbrev vs : Row → Option Row
  vs = view_row C ks

  own-unseen : (r : Row) → same r.exist c ≡ true → dominates C r.exist ≡ false
  own-unseen r e = rw (same_eq r.exist c e) aside

  above_unseen : (x : Class) → dominates x c ≡ true → dominates C x ≡ false
  above_unseen x e = fails (dominates C x) (dominates C c) (λ q. dominates_trans C x c q e) aside

  abbrev Silent : (ℕ → Row → Option Row) → Type 0
  Silent f = (k : ℕ) (r : Row) → and_then (f k r) vs ≡ vs r

  edit_silent : (f : ℕ → Row → Option Row) → Silent f → (k : ℕ) (rs : List Row) → gather vs (edit c f k rs) ≡ gather vs rs
  unfolding edit touch
  edit_silent f each k [] = refl
  edit_silent f each k (r ∷ rs) =
      gather-push vs (touch b f k r) (edit c f (tick b k) rs) ∙ ap₂ push (touched b) (edit_silent f each (tick b k) rs)
    where
      b : Bool
      b = dominates c r.exist

      touched : (b : Bool) → and_then (touch b f k r) vs ≡ vs r
      touched true = each k r
      touched false = refl

  strike_silent : (is : List ℕ) → Silent (strike c is)
  unfolding strike own
  strike_silent is k r = go (has k is) (same r.exist c) refl
    where
      go : (a b : Bool) → same r.exist c ≡ b → and_then (when (not (a && b)) r) vs ≡ vs r
      go true true e = sym (row-unseen C ks r (own-unseen r e))
      go true false e = refl
      go false b e = refl

  renew_silent : (o : Option New) (f : Field) → hide C (renew c false o f) ≡ hide C f
  unfolding renew lets put hide
  renew_silent None f = refl
  renew_silent (Some (new_class k)) f = refl
  renew_silent (Some (new_value v)) f = go (dominates f.class c) refl
    where
      go : (b : Bool) → dominates f.class c ≡ b → hide C (cond b (record { class = f.class; value = v }) f) ≡ hide C f
      go true e = rw (above_unseen f.class e)
      go false e = refl
  renew_silent (Some (new_field g)) f = refl

  fields_silent : (g : ℕ → Option New) (l : Places Column) (fs : Places Field) → view_fields C l (renew_all c false g fs) ≡ view_fields C l fs
  unfolding view_fields view_field renew_all
  fields_silent g [] fs = refl
  fields_silent g (k ∷ l) [] = refl
  fields_silent g (k ∷ l) (f ∷ fs) = ap₂ (λ (o : Option Field) (m : Places Field). o ∷ m) (one k f) (fields_silent (λ (j : ℕ). g (suc j)) l fs)
    where
      one : (k : Option Column) (f : Option Field) → view_field C k (map_o (renew c false (g zero)) f) ≡ view_field C k f
      one None f = refl
      one (Some k) None = refl
      one (Some k) (Some f) = ap Some (renew_silent (g zero) f)

  amend_silent : (es : List Change) → Silent (amend c es)
  unfolding amend amend_row own view_row cut
  amend_silent es k r = go (same r.exist c) refl
    where
      go : (mine : Bool) → same r.exist c ≡ mine
          → when (dominates C r.exist) (record { exist = r.exist; fields = view_fields C ks (renew_all c mine (entry_for es k) r.fields) }) ≡ vs r
      go true q = rw (own-unseen r q)
      go false q = ap (λ (fs : Places Field). when (dominates C r.exist) (record { exist = r.exist; fields = fs })) (fields_silent (entry_for es k) ks r.fields)

  pub new_rows_silent : (a : Action) (l : Places Column) (rs : List Row) → gather vs (new_rows c a l rs) ≡ gather vs rs
  unfolding new_rows new_row view_row
  new_rows_silent (insert gs) l rs = gather_append vs rs (new_row c gs l ∷ []) ∙ rw aside (append-nil (gather vs rs))
  new_rows_silent (delete is) l rs = edit_silent (strike c is) (strike_silent is) zero rs
  new_rows_silent (update es) l rs = edit_silent (amend c es) (amend_silent es) zero rs
  new_rows_silent (select q) l rs = refl
