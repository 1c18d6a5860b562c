-- The reply table: what is answered is the reply of the first row that holds, and a command is accepted just where no refusal's row does.
-- Assumes nothing.
use mathlib.Core.Path.{◌≡◌, refl, sym}
use mathlib.Core.Logic.{◌↔◌, inl, inr, ⊎_elim}
use mathlib.Core.Bool.{Bool, cond, false, false≢true, not, true}
use mathlib.Core.List.{List, [], ◌++◌, ◌∷◌}
use Rattle.std.specs.Prelude.{Option, None, Some}
use Prim.Native.Nat.{ℕ}
use lib.ListN.{length}
use Rattle.model.specs.declared.Class.{Class}
use Rattle.model.specs.declared.Reply.{Reply}
use Rattle.model.specs.declared.Reply.TheVariants.{BadLine, BadSheet, BerthFull, Done, LeftOut, Misfit, NamedTwice, NoBerth, NoColumn, NoRow, NoTable, NotNamed, NotYours, RoomShort, RuleBroken, SheetLong, TableAbove, Uncovers}
use Rattle.model.specs.Places.{any, nth}
use Rattle.model.specs.Parts.{Row, Store, Table, table_at}
use Rattle.model.specs.Rules.{rules}
use Rattle.model.specs.View.{view}
use Rattle.model.specs.Replies.{accepts, number}
use Rattle.model.specs.Commands.{Action, Change, Given, Line, command, delete, insert, nobodys, select, unformed, update}
use Rattle.model.specs.Answers.{answer, answer_text, unknown}
use Rattle.model.specs.Checks.{Check, checks, first_of, or_next, table_checks}
use Rattle.model.specs.Verdicts.{Verdict, accept, decided, judge, judgement, line_verdict, says, verdict}
use Rattle.model.specs.Conditions.{Above, First, NoneHolds, Rows, hidden_rows, line_rows, refusal_rows, table_rows}
use Rattle.model.specs.Claims.{AcceptedExactly, Accepting, GivenExactly}
use Rattle.model.proofs.Reflects.{Reflects, any_reflects, clash, eqb_reflects, fails_so, fails_where, ltb_reflects, not_reflects, sure_reflects, surely, twice_reflects}
use Rattle.model.proofs.MarkLaws.{dominance}
use Rattle.model.proofs.CheckTests.{allows_reflects, asks_misfit_reflects, asks_unseen_reflects, in_berth_reflects, left_out_reflects, misfit-field, misfit_reflects, no_berth_reflects, no_column_reflects, no_row_reflects, own_reflects, same_column_reflects, same_place_reflects, uncovers_reflects, unnamed_reflects}
use Rattle.model.proofs.Clear.{Clear, cleared, passed}

infixr 5 ◌above◌
-- checks and rows agree entry by entry: the same reply, and a test that passes just where the row holds
pub data Agree : List Check → Rows → Type 1 where
  end : Agree [] []
  ◌above◌ : {r : Reply} {b : Bool} {P : Type 0} {ks : List Check} {xs : Rows} → Reflects b P → Agree ks xs → Agree ((r, b) ∷ ks) ((r, P) ∷ xs)

-- ---- any list of checks
-- one row on top of others: its reply where its test passes, else theirs
pub row_first : (b : Bool) (P : Type 0) (ys : Rows) (x y r : Reply) → Reflects b P → ((y ≡ r) ↔ First r ys)
    → (cond b x y ≡ r) ↔ First r ((x, P) ∷ ys)
row_first true P ys x y r t h = (λ e. inl (sym e, t.0 refl), ⊎_elim (λ k. sym k.0) (λ k. absurd (k.0 (t.0 refl))))
row_first false P ys x y r t h = (λ e. inr (fails_so t refl, h.0 e), ⊎_elim (λ k. absurd (fails_so t refl k.1)) (λ k. h.1 k.1))

-- a row that always holds
pub row_last : (x r : Reply) → (x ≡ r) ↔ First r ((x, Unit {0}) ∷ [])
row_last x r = (λ e. inl (sym e, tt), ⊎_elim (λ k. sym k.0) (λ k. absurd k.1))

-- the checks, and then what is said if none of them passes
pub first-given : {ks : List Check} {xs : Rows} → Agree ks xs → (ys : Rows) (v : Verdict) (r : Reply) → ((v.reply ≡ r) ↔ First r ys)
    → ((decided (first_of ks) v).reply ≡ r) ↔ First r (xs ++ ys)
unfolding decided says
first-given end ys v r h = h
first-given (◌above◌ {r = x} {b = b} {P = P} {ks = ks} {xs = xs} t a) ys v r h =
    rw (next b) (row_first b P (xs ++ ys) x (decided (first_of ks) v).reply r t (first-given a ys v r h))
  where
    next : (b : Bool) → (decided (or_next b x (first_of ks)) v).reply ≡ cond b x (decided (first_of ks) v).reply
    next true = refl
    next false = refl

pub clear_none : {ks : List Check} {xs : Rows} → Agree ks xs → Clear ks ↔ NoneHolds xs
clear_none end = (λ h. tt, λ h. tt)
clear_none (t above a) = (λ h. (fails_so t h.0, (clear_none a).0 h.1), λ h. (fails_where t h.0, (clear_none a).1 h.1))

-- ---- the table
module _ (w room : ℕ) (c : Class) where
  pub checks-agree : (a : Action) (t : Table) → Agree (checks w room c a t) (refusal_rows w room c a t)
  unfolding checks
  checks-agree (insert gs) t =
      twice_reflects same_column_reflects gs
      above any_reflects (λ (g : Given). no_column_reflects t g.column) gs
      above unnamed_reflects gs t
      above any_reflects (λ (g : Given). misfit-field t g.column g.field) gs
      above no_berth_reflects c t
      above in_berth_reflects c t.rows 8
      above end
  checks-agree (delete is) t =
      twice_reflects eqb_reflects is
      above any_reflects (no_row_reflects t) is
      above any_reflects (λ (i : ℕ). sure_reflects (λ (r : Row). not_reflects (own_reflects c r)) (nth i t.rows)) is
      above end
  checks-agree (update es) t =
      twice_reflects same_place_reflects es
      above any_reflects (λ (e : Change). no_column_reflects t e.column) es
      above any_reflects (λ (e : Change). no_row_reflects t e.row) es
      above any_reflects (λ (e : Change). misfit_reflects t e.column e.new) es
      above any_reflects (λ (e : Change). sure_reflects (λ (r : Row). not_reflects (allows_reflects c e r)) (nth e.row t.rows)) es
      above any_reflects (λ (e : Change). sure_reflects (uncovers_reflects e) (nth e.row t.rows)) es
      above end
  checks-agree (select q) t =
      asks_unseen_reflects t q
      above asks_misfit_reflects t q
      above ltb_reflects room (length (answer_text w (answer q t.rows)))
      above end

  table_agrees : (a : Action) (t : Table) → Agree (table_checks w room c a t) ((TableAbove, ¬ Above c t.class) ∷ refusal_rows w room c a t)
  unfolding table_checks
  table_agrees a t = not_reflects (dominance c t.class) above checks-agree a t

  accept-given : (a : Action) (t : Table) (r : Reply) → ((accept a t).reply ≡ r) ↔ First r (hidden_rows w room c a t ++ ((Done, Unit {0}) ∷ []))
  unfolding accept says
  accept-given (insert gs) t r = row_last Done r
  accept-given (delete is) t r = row_last Done r
  accept-given (update es) t r = row_last Done r
  accept-given (select q) t r =
      row_first (any (unknown q) t.rows) _ ((Done, Unit {0}) ∷ []) LeftOut Done r (left_out_reflects q t.rows) (row_last Done r)

  judge-given : (a : Action) (o : Option Table) (r : Reply) → ((judge w room c a o).reply ≡ r) ↔ First r (table_rows w room c a o)
  unfolding judge says
  judge-given a None r = row_last NoTable r
  judge-given a (Some t) r = first-given (table_agrees a t) _ (accept a t) r (accept-given a t r)

line-given : (w room : ℕ) (s : Store) (l : Line) (r : Reply) → ((line_verdict w room s l).reply ≡ r) ↔ First r (line_rows w room s l)
unfolding line_verdict says judgement
line-given w room s nobodys r = row_last BadLine r
line-given w room s (unformed c) r = row_last BadLine r
line-given w room s (command k) r = judge-given w room k.clearance k.action (table_at k.directory k.table (view k.clearance s)) r

pub given_exactly : GivenExactly
unfolding verdict says
given_exactly w room s l r =
    rw (turned (rules w s))
    (row_first (not (rules w s)) _ (line_rows w room s l) RuleBroken (line_verdict w room s l).reply r
    (not_reflects (λ e. e, λ e. e)) (line-given w room s l r))
  where
    turned : (b : Bool) → (cond b (line_verdict w room s l) (says RuleBroken)).reply ≡ cond (not b) RuleBroken (line_verdict w room s l).reply
    turned true = refl
    turned false = refl

pub accepted_exactly : AcceptedExactly
accepted_exactly w room c a t = (
  λ e. let h = (clear_none (table_agrees w room c a t)).0 (passed w room c a t e) in (surely (dominance c t.class) h.0, h.1),
  λ h. cleared w room c a t ((clear_none (table_agrees w room c a t)).1 (λ k. k h.0, h.1)),
)

pub accepting : Accepting
unfolding accepts number
accepting Done = (λ e. inl refl, λ h. refl)
accepting LeftOut = (λ e. inr refl, λ h. refl)
accepting BadLine = (λ e. absurd (false≢true e), ⊎_elim (λ e. clash cc) (λ e. clash cc))
accepting NoTable = (λ e. absurd (false≢true e), ⊎_elim (λ e. clash cc) (λ e. clash cc))
accepting TableAbove = (λ e. absurd (false≢true e), ⊎_elim (λ e. clash cc) (λ e. clash cc))
accepting NamedTwice = (λ e. absurd (false≢true e), ⊎_elim (λ e. clash cc) (λ e. clash cc))
accepting NoColumn = (λ e. absurd (false≢true e), ⊎_elim (λ e. clash cc) (λ e. clash cc))
accepting NoRow = (λ e. absurd (false≢true e), ⊎_elim (λ e. clash cc) (λ e. clash cc))
accepting NotNamed = (λ e. absurd (false≢true e), ⊎_elim (λ e. clash cc) (λ e. clash cc))
accepting Misfit = (λ e. absurd (false≢true e), ⊎_elim (λ e. clash cc) (λ e. clash cc))
accepting NoBerth = (λ e. absurd (false≢true e), ⊎_elim (λ e. clash cc) (λ e. clash cc))
accepting BerthFull = (λ e. absurd (false≢true e), ⊎_elim (λ e. clash cc) (λ e. clash cc))
accepting NotYours = (λ e. absurd (false≢true e), ⊎_elim (λ e. clash cc) (λ e. clash cc))
accepting Uncovers = (λ e. absurd (false≢true e), ⊎_elim (λ e. clash cc) (λ e. clash cc))
accepting RoomShort = (λ e. absurd (false≢true e), ⊎_elim (λ e. clash cc) (λ e. clash cc))
accepting SheetLong = (λ e. absurd (false≢true e), ⊎_elim (λ e. clash cc) (λ e. clash cc))
accepting BadSheet = (λ e. absurd (false≢true e), ⊎_elim (λ e. clash cc) (λ e. clash cc))
accepting RuleBroken = (λ e. absurd (false≢true e), ⊎_elim (λ e. clash cc) (λ e. clash cc))
