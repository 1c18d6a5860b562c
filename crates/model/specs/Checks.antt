-- The reply table. 01, "Reply numbers": for each verb its rows in the order of the table, each a reply and the test that gives it. All of
-- them look at the table as the client's view has it, and at nothing else. A test is over all entries of the command.
-- Assumes nothing.
use Rattle.std.specs.Prelude.{Bool, true, false, ◌&&◌, ◌||◌, not, List, [], ◌∷◌, ℕ, zero, suc, eqb, leb, ltb, length}
use Rattle.std.specs.Prelude.{Option, None, Some}
use Rattle.model.specs.declared.Class.{Class}
use Rattle.model.specs.declared.Kind.{Kind}
use Rattle.model.specs.declared.Field.{Field}
use Rattle.model.specs.declared.Reply.{Reply}
use Rattle.model.specs.declared.Reply.TheVariants.{TableAbove, NamedTwice, NoColumn, NoRow, NotNamed, Misfit, NoBerth, BerthFull, NotYours, Uncovers, RoomShort}
use Rattle.model.specs.Places.{Places, present, sure, at, nth, any, twice}
use Rattle.model.specs.Classes.{dominates, same}
use Rattle.model.specs.Values.{fits, is_hidden}
use Rattle.model.specs.Parts.{Row, Column, Table}
use Rattle.model.specs.Rules.{in_berth}
use Rattle.model.specs.Commands.{Given, New, new_class, new_value, new_field, Change, Condition, Action, insert, delete, update, select}
use Rattle.model.specs.Answers.{answer, answer_text}

-- ---- 5: a column, a row, a row and column pair named twice
unfoldable pub same_column : Given → Given → Bool
same_column g h = eqb g.column h.column

unfoldable pub same_place : Change → Change → Bool
same_place e f = eqb e.row f.row && eqb e.column f.column

-- ---- 6: column not visible
unfoldable pub no_column : Table → ℕ → Bool
no_column t j = not (present (at j t.columns))

-- ---- 7: row number not below the count of visible rows
unfoldable pub no_row : Table → ℕ → Bool
no_row t i = not (ltb i (length t.rows))

-- ---- 8: a visible column, from number j on, that is not named
unfoldable pub names : List Given → ℕ → Bool
names gs j = any (λ (g : Given). eqb g.column j) gs

unfoldable pub unnamed : List Given → ℕ → Places Column → Bool
unnamed gs j [] = false
unnamed gs j (o ∷ ks) = (present o && not (names gs j)) || unnamed gs (suc j) ks

-- ---- 9: the value neither blank nor of the column's kind; a new class alone brings no value
unfoldable pub new_fits : Kind → New → Bool
new_fits k (new_class x) = true
new_fits k (new_value v) = fits k v
new_fits k (new_field f) = fits k f.value

unfoldable pub misfit : Table → ℕ → New → Bool
misfit t j n = sure (λ (k : Column). not (new_fits k.kind n)) (at j t.columns)

-- ---- 10: no berth of the clearance's class
unfoldable pub no_berth : Class → Table → Bool
no_berth c t = not (any (sure (same c)) t.berths)

-- ---- 12: the row is not the client's to change in this way
unfoldable pub own : Class → Row → Bool
own c r = same r.exist c

-- another's row takes a new value alone, where the field's class dominates the clearance
unfoldable pub takes_from : Class → New → Option Field → Bool
takes_from c (new_class k) o = false
takes_from c (new_value v) o = sure (λ (f : Field). dominates f.class c) o
takes_from c (new_field f) o = false

unfoldable pub allows : Class → Change → Row → Bool
allows c e r = own c r || takes_from c e.new (at e.column r.fields)

-- ---- 13: a new class alone on a field that is hidden in the client's view
unfoldable pub uncovers_at : New → Option Field → Bool
uncovers_at (new_class k) o = sure (λ (f : Field). is_hidden f.value) o
uncovers_at (new_value v) o = false
uncovers_at (new_field f) o = false

unfoldable pub uncovers : Change → Row → Bool
uncovers e r = uncovers_at e.new (at e.column r.fields)

-- ---- 6 and 9 of a condition
unfoldable pub asks_unseen : Table → Option Condition → Bool
asks_unseen t None = false
asks_unseen t (Some q) = no_column t q.column

unfoldable pub asks_misfit : Table → Option Condition → Bool
asks_misfit t None = false
asks_misfit t (Some q) = misfit t q.column (new_value q.value)

-- ---- the table
abbrev pub Check : Type 0
Check = Reply × Bool

module _ (w : ℕ) (room : ℕ) (c : Class) where
  unfoldable pub checks : Action → Table → List Check
  checks (insert gs) t =
      (NamedTwice, twice same_column gs)
      ∷ (NoColumn, any (λ (g : Given). no_column t g.column) gs)
      ∷ (NotNamed, unnamed gs zero t.columns)
      ∷ (Misfit, any (λ (g : Given). misfit t g.column (new_field g.field)) gs)
      ∷ (NoBerth, no_berth c t)
      ∷ (BerthFull, leb 8 (in_berth c t.rows))
      ∷ []
  checks (delete is) t =
      (NamedTwice, twice eqb is)
      ∷ (NoRow, any (no_row t) is)
      ∷ (NotYours, any (λ (i : ℕ). sure (λ (r : Row). not (own c r)) (nth i t.rows)) is)
      ∷ []
  checks (update es) t =
      (NamedTwice, twice same_place es)
      ∷ (NoColumn, any (λ (e : Change). no_column t e.column) es)
      ∷ (NoRow, any (λ (e : Change). no_row t e.row) es)
      ∷ (Misfit, any (λ (e : Change). misfit t e.column e.new) es)
      ∷ (NotYours, any (λ (e : Change). sure (λ (r : Row). not (allows c e r)) (nth e.row t.rows)) es)
      ∷ (Uncovers, any (λ (e : Change). sure (uncovers e) (nth e.row t.rows)) es)
      ∷ []
  checks (select q) t =
      (NoColumn, asks_unseen t q)
      ∷ (Misfit, asks_misfit t q)
      ∷ (RoomShort, ltb room (length (answer_text w (answer q t.rows))))
      ∷ []

  -- of a table that the view has: 4 comes before the verb's own rows
  unfoldable pub table_checks : Action → Table → List Check
  table_checks a t = (TableAbove, not (dominates c t.class)) ∷ checks a t

-- the reply of the first test that passes
abbrev pub or_next : Bool → Reply → Option Reply → Option Reply
or_next true r o = Some r
or_next false r o = o

abbrev pub first_of : List Check → Option Reply
first_of [] = None
first_of (k ∷ ks) = or_next k.1 k.0 (first_of ks)
