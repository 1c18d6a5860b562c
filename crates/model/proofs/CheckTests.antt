-- The tests of the reply table: each passes just where its condition holds.
-- Assumes nothing.
use mathlib.Core.Path.{◌∙◌, ◌≡◌, ap, refl, subst, sym}
use mathlib.Core.Logic.{◌↔◌, ◌⊎◌, inl, inr, ⊎_elim}
use mathlib.Core.Bool.{Bool, false, false≢true, not, true}
use mathlib.Core.List.{List, [], ◌∷◌}
use Rattle.std.specs.Prelude.{Option, None, Some}
use Prim.Native.Nat.{◌+◌, ◌≤◌, suc, zero, ℕ}
use native.Mathlib.Nat.{zero-add}
use native.Mathlib.Omega.{arith}
use lib.Dec.{leb, leb-suc-suc, leb-suc-zero, leb-zero, ltb}
use lib.ListN.{length}
use borrow.Author.Tests.{le-leb, le-ltb, leb-true, ltb-false}
use Rattle.model.specs.declared.Class.{Class}
use Rattle.model.specs.declared.Field.{Field}
use Rattle.model.specs.declared.Kind.{Kind}
use Rattle.model.specs.declared.Value.{Value}
use Rattle.model.specs.declared.Value.TheVariants.{Hidden}
use Rattle.model.specs.Places.{Places, any, at, present, sure, tick}
use Rattle.model.specs.Classes.{same}
use Rattle.model.specs.Values.{fits}
use Rattle.model.specs.Parts.{Column, Row, Table}
use Rattle.model.specs.Rules.{in_berth}
use Rattle.model.specs.Forms.{only}
use Rattle.model.specs.Commands.{Change, Condition, Given, New, new_class, new_field, new_value}
use Rattle.model.specs.Answers.{unknown}
use Rattle.model.specs.Checks.{allows, asks_misfit, asks_unseen, misfit, names, new_fits, no_berth, no_column, no_row, own, same_column, same_place, takes_from, uncovers, uncovers_at, unnamed}
use Rattle.model.specs.Conditions.{Above, Allowed, AtLeast, Brings, SomeOf, TakesNot, There, Uncovering, Visible}
use Rattle.model.proofs.Tests.{not-both, not-true}
use Rattle.model.proofs.OptionLaws.{nothing_is}
use Rattle.model.proofs.Reflects.{Reflects, always, and_reflects, any_reflects, clash, eqb_reflects, never, not_reflects, or_reflects, present_reflects, reworded, same_reflects, sure_reflects}
use Rattle.model.proofs.MarkLaws.{dominance}
use Rattle.model.proofs.ValueTests.{fits_reflects, hidden_reflects}

-- ---- 5: named twice
pub same_column_reflects : (g h : Given) → Reflects (same_column g h) (g.column ≡ h.column)
unfolding same_column
same_column_reflects g h = eqb_reflects g.column h.column

pub same_place_reflects : (e f : Change) → Reflects (same_place e f) ((e.row ≡ f.row) × (e.column ≡ f.column))
unfolding same_place
same_place_reflects e f = and_reflects (eqb_reflects e.row f.row) (eqb_reflects e.column f.column)

-- ---- 6 and 7: no such column, no such row
pub visible_reflects : (t : Table) (j : ℕ) → Reflects (present (at j t.columns)) (Visible t j)
visible_reflects t j = present_reflects (at j t.columns)

pub no_column_reflects : (t : Table) (j : ℕ) → Reflects (no_column t j) (¬ Visible t j)
unfolding no_column
no_column_reflects t j = not_reflects (visible_reflects t j)

pub no_row_reflects : (t : Table) (i : ℕ) → Reflects (no_row t i) (length t.rows ≤ i)
unfolding no_row
no_row_reflects t i =
    let n = length t.rows in
    (λ e. ltb-false i n (not-true (ltb i n) e), λ h. ap not (le-ltb i n h))

-- ---- 8: a visible column not named
pub names_reflects : (gs : List Given) (j : ℕ) → Reflects (names gs j) (SomeOf (λ (g : Given). g.column ≡ j) gs)
unfolding names
names_reflects gs j = any_reflects (λ (g : Given). eqb_reflects g.column j) gs

-- a visible column that is not named, where the numbers of ks begin with n
abbrev Unnamed : List Given → ℕ → Places Column → Type 0
Unnamed gs n ks = (j : ℕ) × There (λ (k : Column). Unit {0}) (at j ks) × (¬ SomeOf (λ (g : Given). g.column ≡ n + j) gs)

unnamed-from : (gs : List Given) (n : ℕ) (ks : Places Column) → Reflects (unnamed gs n ks) (Unnamed gs n ks)
unfolding unnamed
unnamed-from gs n [] = never (λ h. nothing_is h.1.1)
unnamed-from gs n (o ∷ ks) =
    reworded (or_reflects (and_reflects (present_reflects o) (not_reflects (names_reflects gs n))) (unnamed-from gs (suc n) ks))
    (⊎_elim
    (λ h. (zero, h.0, moved n (n + zero) (omega arith) h.1))
    (λ h. (suc h.0, h.1, moved (suc n + h.0) (n + suc h.0) (omega arith) h.2)))
    (λ h. back h.0 h.1 h.2)
  where
    moved : (i j : ℕ) → i ≡ j → (¬ SomeOf (λ (g : Given). g.column ≡ i) gs) → ¬ SomeOf (λ (g : Given). g.column ≡ j) gs
    moved i j e = subst (λ (m : ℕ). ¬ SomeOf (λ (g : Given). g.column ≡ m) gs) e

    back : (j : ℕ) → There (λ (k : Column). Unit {0}) (at j (o ∷ ks)) → (¬ SomeOf (λ (g : Given). g.column ≡ n + j) gs)
        → (There (λ (k : Column). Unit {0}) o × (¬ SomeOf (λ (g : Given). g.column ≡ n) gs)) ⊎ Unnamed gs (suc n) ks
    back zero h k = inl (h, moved (n + zero) n (omega arith) k)
    back (suc j) h k = inr (j, h, moved (n + suc j) (suc n + j) (omega arith) k)

pub unnamed_reflects : (gs : List Given) (t : Table)
    → Reflects (unnamed gs zero t.columns) ((j : ℕ) × Visible t j × (¬ SomeOf (λ (g : Given). g.column ≡ j) gs))
unnamed_reflects gs t =
    reworded (unnamed-from gs zero t.columns)
    (λ h. (h.0, h.1, (numbered h.0).0 h.2))
    (λ h. (h.0, h.1, (numbered h.0).1 h.2))
  where
    numbered : (j : ℕ) → (¬ SomeOf (λ (g : Given). g.column ≡ zero + j) gs) ↔ (¬ SomeOf (λ (g : Given). g.column ≡ j) gs)
    numbered j = rw (zero-add j) (λ h. h, λ h. h)

-- ---- 9: a value that does not fit
-- an entry that fits just the kinds that the value v fits
misfit_by : (t : Table) (j : ℕ) (n : New) (v : Value) → ((k : Kind) → new_fits k n ≡ fits k v) → Reflects (misfit t j n) (TakesNot t j v)
unfolding misfit
misfit_by t j n v e = sure_reflects (λ (k : Column). rw (e k.kind) (not_reflects (fits_reflects k.kind v))) (at j t.columns)

pub misfit-value : (t : Table) (j : ℕ) (v : Value) → Reflects (misfit t j (new_value v)) (TakesNot t j v)
unfolding new_fits
misfit-value t j v = misfit_by t j (new_value v) v (λ k. refl)

pub misfit-field : (t : Table) (j : ℕ) (f : Field) → Reflects (misfit t j (new_field f)) (TakesNot t j f.value)
unfolding new_fits
misfit-field t j f = misfit_by t j (new_field f) f.value (λ k. refl)

-- where v and no other value is brought
brought : (t : Table) (j : ℕ) (n : New) (v : Value) → Brings n v → ((u : Value) → Brings n u → u ≡ v) → Reflects (misfit t j n) (TakesNot t j v)
    → Reflects (misfit t j n) ((u : Value) × Brings n u × TakesNot t j u)
brought t j n v b only r = reworded r (λ h. (v, b, h)) (λ h. subst (λ (x : Value). TakesNot t j x) (only h.0 h.1) h.2)

pub misfit_reflects : (t : Table) (j : ℕ) (n : New) → Reflects (misfit t j n) ((v : Value) × Brings n v × TakesNot t j v)
unfolding misfit new_fits
misfit_reflects t j (new_class x) =
    reworded (sure_reflects {P = λ (k : Column). ⊥} (λ (k : Column). never (λ h. h)) (at j t.columns)) (λ h. absurd h.2)
    (λ h. ⊎_elim (λ e. clash (cc e)) (λ e. clash (cc e.1)) h.1)
misfit_reflects t j (new_value u) = brought t j (new_value u) u (inl refl) (λ v. ⊎_elim (λ e. cc e) (λ e. clash (cc e.1))) (misfit-value t j u)
misfit_reflects t j (new_field f) = brought t j (new_field f) f.value (inr (f.class, refl)) came (misfit-field t j f)
  where
    came : (v : Value) → Brings (new_field f) v → v ≡ f.value
    came v = ⊎_elim (λ e. clash (cc e)) (λ e. let q : record { class = e.0; value = v } ≡ f = cc e.1 in λ i. (q i).value)

-- ---- 10 and 11: no berth, no room in it
pub berth_reflects : (c : Class) (l : Places Class) → Reflects (any (sure (same c)) l) ((i : ℕ) × (at i l ≡ Some c))
berth_reflects c [] = never (λ h. nothing_is h.1)
berth_reflects c (o ∷ l) =
    reworded (or_reflects (sure_reflects (same_reflects c) o) (berth_reflects c l))
    (⊎_elim (λ h. (zero, h.1 ∙ ap Some (sym h.2))) (λ h. (suc h.0, h.1))) (λ h. back h.0 h.1)
  where
    back : (i : ℕ) → at i (o ∷ l) ≡ Some c → There (λ (b : Class). c ≡ b) o ⊎ ((i : ℕ) × (at i l ≡ Some c))
    back zero e = inl (c, e, refl)
    back (suc i) e = inr (i, e)

pub no_berth_reflects : (c : Class) (t : Table) → Reflects (no_berth c t) (¬ ((i : ℕ) × (at i t.berths ≡ Some c)))
unfolding no_berth
no_berth_reflects c t = not_reflects (berth_reflects c t.berths)

-- a count that goes up where the test passes
tick_reflects : {P X Y : Type 0} (b : Bool) (n k : ℕ) → Reflects b P → Reflects (leb n k) X → Reflects (leb (suc n) k) Y
    → Reflects (leb (suc n) (tick b k)) ((P × X) ⊎ Y)
tick_reflects true n k r x y = (
  λ e. inl (r.0 refl, x.0 (sym (leb-suc-suc n k) ∙ e)),
  ⊎_elim (λ h. leb-suc-suc n k ∙ x.1 h.1) (λ h. let z = leb-true (suc n) k (y.1 h) in le-leb (suc n) (suc k) (omega arith)),
)
tick_reflects false n k r x y = (λ e. inr (y.0 e), ⊎_elim (λ h. absurd (false≢true (r.1 h.0))) y.1)

pub in_berth_reflects : (c : Class) (rs : List Row) (n : ℕ) → Reflects (leb n (in_berth c rs)) (AtLeast n (λ (r : Row). r.exist ≡ c) rs)
unfolding in_berth
in_berth_reflects c [] zero = always tt
in_berth_reflects c [] (suc n) = (λ e. not-both (leb (suc n) zero) e (leb-suc-zero n), λ h. absurd h)
in_berth_reflects c (r ∷ rs) zero = (λ e. tt, λ h. leb-zero (in_berth c (r ∷ rs)))
in_berth_reflects c (r ∷ rs) (suc n) =
    tick_reflects (same r.exist c) n (in_berth c rs) (same_reflects r.exist c) (in_berth_reflects c rs n) (in_berth_reflects c rs (suc n))

-- ---- 12: not the client's to change in this way
pub own_reflects : (c : Class) (r : Row) → Reflects (own c r) (r.exist ≡ c)
unfolding own
own_reflects c r = same_reflects r.exist c

takes_reflects : (c : Class) (n : New) (o : Option Field)
    → Reflects (takes_from c n o) ((v : Value) × (n ≡ new_value v) × There (λ (f : Field). Above f.class c) o)
unfolding takes_from
takes_reflects c (new_class k) o = never (λ h. clash (cc h.1))
takes_reflects c (new_value v) o = reworded (sure_reflects (λ (f : Field). dominance f.class c) o) (λ h. (v, refl, h)) (λ h. h.2)
takes_reflects c (new_field f) o = never (λ h. clash (cc h.1))

pub allows_reflects : (c : Class) (e : Change) (r : Row) → Reflects (allows c e r) (Allowed c e r)
unfolding allows
allows_reflects c e r = or_reflects (own_reflects c r) (takes_reflects c e.new (at e.column r.fields))

-- ---- 13: a new class alone on a hidden field
uncovers_at_lem : (n : New) (o : Option Field) → Reflects (uncovers_at n o) ((k : Class) × (n ≡ new_class k) × There (λ (f : Field). f.value ≡ Hidden) o)
unfolding uncovers_at
uncovers_at_lem (new_class k) o = reworded (sure_reflects (λ (f : Field). hidden_reflects f.value) o) (λ h. (k, refl, h)) (λ h. h.2)
uncovers_at_lem (new_value v) o = never (λ h. clash (cc h.1))
uncovers_at_lem (new_field f) o = never (λ h. clash (cc h.1))

pub uncovers_reflects : (e : Change) (r : Row) → Reflects (uncovers e r) (Uncovering e r)
unfolding uncovers
uncovers_reflects e r = uncovers_at_lem e.new (at e.column r.fields)

-- ---- 6 and 9 of a condition, and 1
pub asks_unseen_reflects : (t : Table) (q : Option Condition) → Reflects (asks_unseen t q) (There (λ (x : Condition). ¬ Visible t x.column) q)
unfolding asks_unseen
asks_unseen_reflects t None = never (λ h. nothing_is h.1)
asks_unseen_reflects t (Some q) = sure_reflects (λ (x : Condition). no_column_reflects t x.column) (Some q)

pub asks_misfit_reflects : (t : Table) (q : Option Condition) → Reflects (asks_misfit t q) (There (λ (x : Condition). TakesNot t x.column x.value) q)
unfolding asks_misfit
asks_misfit_reflects t None = never (λ h. nothing_is h.1)
asks_misfit_reflects t (Some q) = sure_reflects (λ (x : Condition). misfit-value t x.column x.value) (Some q)

-- a row is left out because its condition field is hidden
pub left_out_reflects : (q : Option Condition) (rs : List Row)
    → Reflects (any (unknown q) rs) (There (λ (x : Condition). SomeOf (λ (r : Row). There (λ (f : Field). f.value ≡ Hidden) (at x.column r.fields)) rs) q)
unfolding unknown
left_out_reflects None rs =
    reworded (any_reflects {P = λ (r : Row). ⊥} (λ (r : Row). never (λ h. h)) rs) (λ h. absurd (nobody rs h)) (λ h. nothing_is h.1)
  where
    nobody : (l : List Row) → ¬ SomeOf (λ (r : Row). ⊥) l
    nobody [] h = h
    nobody (r ∷ l) h = ⊎_elim (λ z. z) (nobody l) h
left_out_reflects (Some q) rs =
    sure_reflects (λ (x : Condition). any_reflects (λ (r : Row). sure_reflects (λ (f : Field). hidden_reflects f.value) (at x.column r.fields)) rs) (Some q)
