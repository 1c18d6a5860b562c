-- What accepted commands do. The tests inside the effects are idle where the checks passed, so just what is named is changed.
-- Assumes nothing.
use mathlib.Core.Path.{◌∙◌, ◌≡◌, ap, ap₂, refl, sym}
use mathlib.Core.Logic.{inl, inr}
use mathlib.Core.Bool.{Bool, ◌&&◌, ◌||◌, cond, false, false≢true, not, true}
use mathlib.Core.List.{List, [], ◌∷◌}
use Rattle.std.specs.Prelude.{Option, None, Some}
use Prim.Native.Nat.{◌+◌, suc, zero, ℕ}
use native.Mathlib.Nat.{add-suc, add-zero, suc-add, zero-add}
use native.Mathlib.Omega.{arith}
use lib.Dec.{eqb}
use borrow.Author.Tests.{eqb-true}
use Rattle.model.specs.declared.Class.{Class}
use Rattle.model.specs.declared.Field.{Field}
use Rattle.model.specs.Places.{Places, and_then, any, at, gather, has, map_o, nth, or_else, present, push, sure, tick, when}
use Rattle.model.specs.Classes.{dominates, same}
use Rattle.model.specs.Values.{hide, is_hidden, mark}
use Rattle.model.specs.Parts.{Column, Row, Table}
use Rattle.model.specs.View.{cut, open_table, view_column, view_columns, view_field, view_fields, view_groups, view_row}
use Rattle.model.specs.Commands.{Change, Condition, Given, New, delete, insert, new_class, new_field, new_value, update}
use Rattle.model.specs.Answers.{Shown, answer, meets, numbered_from}
use Rattle.model.specs.Checks.{allows, checks, names, no_column, own, table_checks, takes_from, uncovers, uncovers_at, unnamed}
use Rattle.model.specs.Effects.{amend, amend_row, change_table, edit, entry_for, fill, given, lets, new_row, new_rows, renew, renew_all, strike, touch}
use Rattle.model.specs.Conditions.{SomeOf, There, Visible}
use Rattle.model.specs.Plainly.{Met, amend_named, put_all, put_named, strike_named}
use Rattle.model.specs.Claims.{DeleteDoes, InsertDoes, SelectDoes, UpdateDoes}
use Rattle.model.proofs.Tests.{both, nor_fst, nor_snd, not-false, or-none}
use Rattle.model.proofs.PlaceLaws.{at-on_places}
use Rattle.model.proofs.OptionLaws.{nothing_is}
use Rattle.model.proofs.Reflects.{Reflects, always, and_reflects, not_reflects, sure_reflects}
use Rattle.model.proofs.ValueTests.{hidden_reflects}
use Rattle.model.proofs.Clear.{passed}
use Rattle.model.proofs.WalkLaws.{walk_plainly}

-- ---- a test of the row that stands at a number
sure-not : {A : Type 0} (q : A → Bool) (o : Option A) (a : A) → o ≡ Some a → sure (λ (x : A). not (q x)) o ≡ false → q a ≡ true
sure-not q o a p h = not-false (q a) (rw p at h)

-- ---- delete
-- what a check says of each number named
each_passes : (p : ℕ → Bool) (is : List ℕ) → any p is ≡ false → (i : ℕ) → has i is ≡ true → p i ≡ false
each_passes p [] h i e = absurd (false≢true e)
each_passes p (x ∷ is) h i e = go (eqb i x) refl e (each_passes p is (nor_snd (p x) (any p is) h) i)
  where
    go : (b : Bool) → eqb i x ≡ b → (b || has i is) ≡ true → (has i is ≡ true → p i ≡ false) → p i ≡ false
    go true q e ih = rw (eqb-true i x q) (nor_fst (p x) (any p is) h)
    go false q e ih = ih e

module _ (c : Class) (ks : Places Column) where
  abbrev shown : List Row → List Row
  shown rs = gather (view_row c ks) rs

  -- f and g do the same to each visible row, by its number and by what the client sees of it
  abbrev Agree : (f g : ℕ → Row → Option Row) → ℕ → List Row → Type 0
  Agree f g k rs = (i : ℕ) (r : Row) → nth i (shown rs) ≡ Some (cut c ks r) → f (k + i) r ≡ g (k + i) r

  walk_agree : (f g : ℕ → Row → Option Row) (k : ℕ) (rs : List Row) → Agree f g k rs → edit c f k rs ≡ edit c g k rs
  unfolding edit touch view_row
  walk_agree f g k [] h = refl
  walk_agree f g k (r ∷ rs) h = go (dominates c r.exist) (λ n. walk_agree f g n rs) h
    where
      go : (b : Bool) → ((n : ℕ) → Agree f g n rs → edit c f n rs ≡ edit c g n rs)
          → ((i : ℕ) (x : Row) → nth i (push (when b (cut c ks r)) (shown rs)) ≡ Some (cut c ks x) → f (k + i) x ≡ g (k + i) x)
          → push (touch b f k r) (edit c f (tick b k) rs) ≡ push (touch b g k r) (edit c g (tick b k) rs)
      go true ih h =
          ap₂ push (rw (add-zero k) at (h zero r refl))
          (ih (suc k) (λ i x e. rw (add-suc k i, ← suc-add k i) at (h (suc i) x e)))
      go false ih h = ap (λ (l : List Row). r ∷ l) (ih k h)

  module _ (is : List ℕ) where
    strike-agree : (rs : List Row) → any (λ (i : ℕ). sure (λ (r : Row). not (own c r)) (nth i (shown rs))) is ≡ false → Agree (strike c is) (strike_named is) zero rs
    unfolding strike strike_named own cut
    strike-agree rs h i r e = rw zero-add (go (has i is) refl)
      where
        go : (b : Bool) → has i is ≡ b → when (not (b && same r.exist c)) r ≡ when (not b) r
        go true p = rw (sure-not (own c) (nth i (shown rs)) (cut c ks r) e (each_passes (λ (i : ℕ). sure (λ (r : Row). not (own c r)) (nth i (shown rs))) is h i p))
        go false p = refl

pub delete_does : DeleteDoes
unfolding change_table new_rows open_table table_checks checks
delete_does w room c is t e =
    let k = passed w room c (delete is) (open_table c t) e in
    walk_agree c (view_columns c t.groups t.columns) (strike c is) (strike_named is) zero t.rows
    (strike-agree c (view_columns c t.groups t.columns) is t.rows k.1.1.1.0)
    ∙ walk_plainly c (strike_named is) t.rows

-- ---- update
-- what a check says of the entry for a row and a column
abbrev entry : ℕ → ℕ → New → Change
entry i j n = record { row = i; column = j; new = n }

entry_passes : (p : Change → Bool) (es : List Change) → any p es ≡ false → (i j : ℕ) (n : New) → entry_for es i j ≡ Some n → p (entry i j n) ≡ false
unfolding entry_for
entry_passes p [] h i j n e = nothing e
  where
    nothing : None ≡ Some n → p (entry i j n) ≡ false
    nothing z = let y : ◌≡◌ {A = ℕ} 0 1 = cc in absurd (omega arith)
entry_passes p (x ∷ es) h i j n e = go (eqb x.row i) (eqb x.column j) refl refl e (entry_passes p es (nor_snd (p x) (any p es) h) i j n)
  where
    go : (a b : Bool) → eqb x.row i ≡ a → eqb x.column j ≡ b → cond (a && b) (Some x.new) (entry_for es i j) ≡ Some n
        → (entry_for es i j ≡ Some n → p (entry i j n) ≡ false) → p (entry i j n) ≡ false
    go true true u v z ih =
        let q : x.new ≡ n = cc in
        ap p (λ t. record { row = sym (eqb-true x.row i u) t; column = sym (eqb-true x.column j v) t; new = sym q t }) ∙ nor_fst (p x) (any p es) h
    go true false u v z ih = ih z
    go false b u v z ih = ih z

-- fields that the client may change are put as named
renew-put : (c : Class) (mine : Bool) (g : ℕ → Option New) (fs : Places Field)
    → ((j : ℕ) (n : New) (f : Field) → g j ≡ Some n → at j fs ≡ Some f → lets c mine n f ≡ true) → renew_all c mine g fs ≡ put_all g fs
unfolding renew_all put_all renew put_named
renew-put c mine g [] h = refl
renew-put c mine g (o ∷ fs) h = ap₂ (λ (x : Option Field) (l : Places Field). x ∷ l) (one o (g zero) (λ n f. h zero n f)) (renew-put c mine (λ (j : ℕ). g (suc j)) fs (λ j. h (suc j)))
  where
    one : (o : Option Field) (m : Option New) → ((n : New) (f : Field) → m ≡ Some n → o ≡ Some f → lets c mine n f ≡ true) → map_o (renew c mine m) o ≡ map_o (put_named m) o
    one None m k = refl
    one (Some f) None k = refl
    one (Some f) (Some n) k = rw (k n f refl refl)

at-view_fields : (c : Class) (j : ℕ) (ks : Places Column) (fs : Places Field) → at j (view_fields c ks fs) ≡ view_field c (at j ks) (at j fs)
unfolding view_fields view_field
at-view_fields c j [] fs = refl
at-view_fields c j (k ∷ ks) [] = sym (no_field (at j (k ∷ ks)))
  where
    no_field : (o : Option Column) → view_field c o None ≡ None
    no_field None = refl
    no_field (Some x) = refl
at-view_fields c zero (k ∷ ks) (f ∷ fs) = refl
at-view_fields c (suc j) (k ∷ ks) (f ∷ fs) = at-view_fields c j ks fs

module _ (c : Class) (mine : Bool) where
  -- the client sees the value of a field that is not hidden in its view
  sees : (f : Field) → is_hidden (hide c f).value ≡ false → dominates c f.class ≡ true
  unfolding hide is_hidden mark
  sees f h = go (dominates c f.class) refl
    where
      go : (b : Bool) → dominates c f.class ≡ b → dominates c f.class ≡ true
      go true p = p
      go false p = absurd (false≢true (sym (rw p at h)))

  field-lets : (n : New) (f : Field) → (mine || takes_from c n (Some (hide c f))) ≡ true → uncovers_at n (Some (hide c f)) ≡ false → lets c mine n f ≡ true
  unfolding takes_from uncovers_at lets hide
  field-lets (new_class k) f a b = both mine (dominates c f.class) (or-none mine a) (sees f b)
  field-lets (new_value v) f a b = a
  field-lets (new_field g) f a b = or-none mine a

module _ (c : Class) (ks : Places Column) (es : List Change) where
  amend-agree : (rs : List Row)
      → any (λ (e : Change). not (present (at e.column ks))) es ≡ false
      → any (λ (e : Change). sure (λ (r : Row). not (allows c e r)) (nth e.row (shown c ks rs))) es ≡ false
      → any (λ (e : Change). sure (uncovers e) (nth e.row (shown c ks rs))) es ≡ false
      → Agree c ks (amend c es) (amend_named es) zero rs
  unfolding amend amend_row amend_named own cut allows uncovers view_field
  amend-agree rs h6 h12 h13 i r e =
      rw zero-add (ap (λ (fs : Places Field). Some (record { exist = r.exist; fields = fs })) (renew-put c (own c r) (entry_for es i) r.fields each))
    where
      each : (j : ℕ) (n : New) (f : Field) → entry_for es i j ≡ Some n → at j r.fields ≡ Some f → lets c (own c r) n f ≡ true
      each j n f p q =
          let there = not-false (present (at j ks)) (entry_passes (λ (e : Change). not (present (at e.column ks))) es h6 i j n p) in
          let may = sure-not (allows c (entry i j n)) (nth i (shown c ks rs)) (cut c ks r) e (entry_passes (λ (e : Change). sure (λ (r : Row). not (allows c e r)) (nth e.row (shown c ks rs))) es h12 i j n p) in
          let hid = rw e at (entry_passes (λ (e : Change). sure (uncovers e) (nth e.row (shown c ks rs))) es h13 i j n p) in
          go (at j ks) there (rw (at-view_fields, q) at may) (rw (at-view_fields, q) at hid)
        where
          go : (k : Option Column) → present k ≡ true → (own c r || takes_from c n (view_field c k (Some f))) ≡ true → uncovers_at n (view_field c k (Some f)) ≡ false → lets c (own c r) n f ≡ true
          go None y a b = absurd (false≢true y)
          go (Some k) y a b = field-lets c (own c r) n f a b

pub update_does : UpdateDoes
unfolding change_table new_rows open_table table_checks checks no_column
update_does w room c es t e =
    let k = passed w room c (update es) (open_table c t) e in
    let ks = view_columns c t.groups t.columns in
    walk_agree c ks (amend c es) (amend_named es) zero t.rows
    (amend-agree c ks es t.rows k.1.1.0 k.1.1.1.1.1.0 k.1.1.1.1.1.1.0)
    ∙ walk_plainly c (amend_named es) t.rows

-- ---- insert
fill-at : (g : ℕ → Option Field) (j : ℕ) (ks : Places Column) → at j (fill g ks) ≡ map_o (λ (k : Column). or_else (g j) k.default) (at j ks)
unfolding fill
fill-at g j [] = refl
fill-at g zero (o ∷ ks) = refl
fill-at g (suc j) (o ∷ ks) = fill-at (λ (i : ℕ). g (suc i)) j ks

-- the field given for a column is that of an entry which names it
given-named : (gs : List Given) (j : ℕ) → names gs j ≡ true → SomeOf (λ (g : Given). (g.column ≡ j) × (given gs j ≡ Some g.field)) gs
unfolding names given
given-named [] j e = absurd (false≢true e)
given-named (g ∷ gs) j e = go (eqb g.column j) refl e (given-named gs j)
  where
    go : (b : Bool) → eqb g.column j ≡ b → (b || names gs j) ≡ true → (names gs j ≡ true → SomeOf (λ (h : Given). (h.column ≡ j) × (given gs j ≡ Some h.field)) gs)
        → SomeOf (λ (h : Given). (h.column ≡ j) × (cond b (Some g.field) (given gs j) ≡ Some h.field)) (g ∷ gs)
    go true p e ih = inl (eqb-true g.column j p, refl)
    go false p e ih = inr (ih e)

not-given : (gs : List Given) (j : ℕ) → names gs j ≡ false → given gs j ≡ None
unfolding names given
not-given [] j e = refl
not-given (g ∷ gs) j e = rw (nor_fst (eqb g.column j) (names gs j) e) (not-given gs j (nor_snd (eqb g.column j) (names gs j) e))

-- 8: each visible column is named
all_named : (gs : List Given) (j : ℕ) (ks : Places Column) → unnamed gs j ks ≡ false → (i : ℕ) → present (at i ks) ≡ true → names gs (j + i) ≡ true
unfolding unnamed
all_named gs j [] h i p = absurd (false≢true p)
all_named gs j (o ∷ ks) h zero p = rw add-zero (not-false (names gs j) (rw p at (nor_fst (present o && not (names gs j)) (unnamed gs (suc j) ks) h)))
all_named gs j (o ∷ ks) h (suc i) p = rw (add-suc, ← suc-add) (all_named gs (suc j) ks (nor_snd (present o && not (names gs j)) (unnamed gs (suc j) ks) h) i p)

-- 6: no other is
only-named : (ks : Places Column) (gs : List Given) → any (λ (g : Given). not (present (at g.column ks))) gs ≡ false → (j : ℕ) → names gs j ≡ true → present (at j ks) ≡ true
unfolding names
only-named ks [] h j p = absurd (false≢true p)
only-named ks (g ∷ gs) h j p = go (eqb g.column j) refl p (only-named ks gs (nor_snd bad (any (λ (g : Given). not (present (at g.column ks))) gs) h) j)
  where
    bad : Bool
    bad = not (present (at g.column ks))

    go : (b : Bool) → eqb g.column j ≡ b → (b || names gs j) ≡ true → (names gs j ≡ true → present (at j ks) ≡ true) → present (at j ks) ≡ true
    go true q p ih = rw (eqb-true g.column j q) at (not-false (present (at g.column ks)) (nor_fst bad (any (λ (g : Given). not (present (at g.column ks))) gs) h))
    go false q p ih = ih p

-- a column that the client sees is the stored one
column-stored : (c : Class) (t : Table) (j : ℕ) (k : Column) → at j (open_table c t).columns ≡ Some k → at j t.columns ≡ Some k
unfolding open_table view_columns view_column
column-stored c t j k e = go (at j t.columns) (rw (at-on_places (view_column (view_groups c t.groups))) at e)
  where
    one : (b : Bool) (x : Column) → when b x ≡ Some k → Some x ≡ Some k
    one true x e = e
    one false x e = let y : ◌≡◌ {A = ℕ} 0 1 = cc in absurd (omega arith)

    go : (o : Option Column) → and_then o (λ (x : Column). when (present (at x.group (view_groups c t.groups))) x) ≡ Some k → o ≡ Some k
    go None e = e
    go (Some x) e = one (present (at x.group (view_groups c t.groups))) x e

some-map : {A : Type 0} (P Q : A → Type 0) → ((a : A) → P a → Q a) → (l : List A) → SomeOf P l → SomeOf Q l
some-map P Q f [] h = h
some-map P Q f (a ∷ l) (inl h) = inl (f a h)
some-map P Q f (a ∷ l) (inr h) = inr (some-map P Q f l h)

seen-present : {A : Type 0} (o : Option A) → present o ≡ true → There (λ (a : A). Unit {0}) o
seen-present None e = absurd (false≢true e)
seen-present (Some a) e = (a, refl, tt)

pub insert_does : InsertDoes
unfolding change_table new_rows new_row table_checks checks no_column
insert_does w room c gs t e =
    let k = passed w room c (insert gs) (open_table c t) e in
    (new_row c gs t.columns, refl, refl, given-there k.1.1.1.0, default-there k.1.1.0)
  where
    ks : Places Column
    ks = (open_table c t).columns

    given-there : unnamed gs zero ks ≡ false → (j : ℕ) → Visible (open_table c t) j
        → SomeOf (λ (g : Given). (g.column ≡ j) × (at j (fill (given gs) t.columns) ≡ Some g.field)) gs
    given-there h j (k, p, u) =
        let named = rw zero-add at (all_named gs zero ks h j (rw p)) in
        some-map (λ (g : Given). (g.column ≡ j) × (given gs j ≡ Some g.field)) _
        (λ g x. (x.0, fill-at (given gs) j t.columns ∙ rw (column-stored c t j k p, x.1)))
        gs (given-named gs j named)

    default-there : any (λ (g : Given). not (present (at g.column ks))) gs ≡ false → (j : ℕ) (k : Column) → at j t.columns ≡ Some k → ¬ Visible (open_table c t) j
        → at j (fill (given gs) t.columns) ≡ Some k.default
    default-there h j k p unseen =
        fill-at (given gs) j t.columns
        ∙ rw (p, not-given gs j (fails-unless (names gs j) (λ n. unseen (seen-present (at j ks) (only-named ks gs h j n)))))
      where
        fails-unless : (b : Bool) → ¬ (b ≡ true) → b ≡ false
        fails-unless true f = absurd (f refl)
        fails-unless false f = refl

-- ---- select
meets_met : (q : Option Condition) (r : Row) → Reflects (meets q r) (Met q r)
unfolding meets
meets_met None r = always tt
meets_met (Some q) r =
    sure_reflects
    (λ (f : Field). and_reflects (not_reflects (hidden_reflects f.value)) (λ e. e, λ e. e))
    (at q.column r.fields)

module _ (q : Option Condition) where
  abbrev Answers : ℕ → Row → Shown → Type 0
  Answers i r x = (x.number ≡ i) × (x.row ≡ r)

  abbrev stay : Shown → Option Shown
  stay x = when (meets q x.row) x

  -- the rows from number n on
  found-down : (n m : ℕ) (r : Row) (rows : List Row) → SomeOf (Answers m r) (gather stay (numbered_from n rows)) → (j : ℕ) × (m ≡ n + j) × (nth j rows ≡ Some r) × Met q r
  unfolding numbered_from
  found-down n m r [] h = absurd h
  found-down n m r (x ∷ rows) h = go (meets q x) refl h (found-down (suc n) m r rows)
    where
      go : (b : Bool) → meets q x ≡ b → SomeOf (Answers m r) (push (when b (record { number = n; row = x })) (gather stay (numbered_from (suc n) rows)))
          → (SomeOf (Answers m r) (gather stay (numbered_from (suc n) rows)) → (j : ℕ) × (m ≡ suc n + j) × (nth j rows ≡ Some r) × Met q r)
          → (j : ℕ) × (m ≡ n + j) × (nth j (x ∷ rows) ≡ Some r) × Met q r
      go true p (inl k) ih = (zero, sym k.0 ∙ omega arith, ap Some k.1, rw k.1 at ((meets_met q x).0 p))
      go true p (inr k) ih = let (j, e, f, g) = ih k in (suc j, e ∙ omega arith, f, g)
      go false p k ih = let (j, e, f, g) = ih k in (suc j, e ∙ omega arith, f, g)

  found_up : (n j : ℕ) (r : Row) (rows : List Row) → nth j rows ≡ Some r → Met q r → SomeOf (Answers (n + j) r) (gather stay (numbered_from n rows))
  unfolding numbered_from
  found_up n j r [] e h = nothing_is e
  found_up n zero r (x ∷ rows) e h =
      let z : x ≡ r = cc in
      rw (z, (meets_met q r).1 h) (inl (omega arith, refl))
  found_up n (suc j) r (x ∷ rows) e h = later (meets q x) (let y : suc n + j ≡ n + suc j = omega arith in rw y at (found_up (suc n) j r rows e h))
    where
      later : (b : Bool) → SomeOf (Answers (n + suc j) r) (gather stay (numbered_from (suc n) rows)) → SomeOf (Answers (n + suc j) r) (push (when b (record { number = n; row = x })) (gather stay (numbered_from (suc n) rows)))
      later true k = inr k
      later false k = k

pub select_does : SelectDoes
unfolding change_table new_rows answer
select_does c q t = (
  refl,
  λ i r. (
    λ h. let (j, e, f, g) = found-down q zero i r t.rows h in let z : i ≡ j = e ∙ omega arith in (rw z f, g),
    λ h. let z : zero + i ≡ i = omega arith in rw z at (found_up q zero i r t.rows h.0 h.1),
  ),
)
