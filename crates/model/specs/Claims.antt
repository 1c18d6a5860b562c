-- What is proved of the definitions. Each claim is a type; proofs/Theorems.antt has a proof of each.
-- Assumes nothing.
use Rattle.std.specs.Prelude.{◌≡◌, ◌↔◌, ◌⊎◌, ◌&&◌, false, true, List, [], ◌++◌, ◌∷◌, ◌≤◌, ℕ, length, take}
use Rattle.std.specs.Prelude.{Option, Some}
use Rattle.model.specs.declared.Class.{Class}
use Rattle.model.specs.declared.Field.{Field}
use Rattle.model.specs.declared.Reply.{Reply}
use Rattle.model.specs.declared.Reply.TheVariants.{Done, LeftOut}
use Rattle.model.specs.declared.Value.{Value}
use Rattle.model.specs.declared.Value.TheVariants.{Hidden}
use Rattle.model.specs.Places.{at, map_o, nth}
use Rattle.model.specs.Classes.{common, dominates}
use Rattle.model.specs.Values.{same_value, value_sound}
use Rattle.model.specs.Parts.{Column, Row, Store, Table, table_at}
use Rattle.model.specs.Rules.{rules}
use Rattle.model.specs.View.{open_table, view}
use Rattle.model.specs.Replies.{accepts}
use Rattle.model.specs.Numbers.{Bytes}
use Rattle.model.specs.Sheets.{Heading, SHEET, may_stand, reading, refused, sheet_text, taken}
use Rattle.model.specs.Rooms.{writing}
use Rattle.model.specs.Commands.{Action, Change, Command, Condition, Given, Line, delete, insert, select, update}
use Rattle.model.specs.Answers.{Shown, answer}
use Rattle.model.specs.Effects.{change_table}
use Rattle.model.specs.Verdicts.{Offer, changed, judge, judgement, outcome, verdict}
use Rattle.model.specs.Tapes.{final, known, known_of, log}
use Rattle.model.specs.Conditions.{Above, Every, First, Good, NoneHolds, SomeOf, Visible, all_rows, reading_rows, refusal_rows, writing_rows}
use Rattle.model.specs.Plainly.{Met, amend_named, classes_of, plainly, strike_named}
use Rattle.model.specs.Cards.{got, want}

-- ---- dominance, for any number of marks
abbrev pub Dominance : Type 0
Dominance = (a b : Class) → dominates a b ≡ true ↔ Above a b

abbrev pub Reflexive : Type 0
Reflexive = (a : Class) → dominates a a ≡ true

abbrev pub Transitive : Type 0
Transitive = (a b c : Class) → dominates a b ≡ true → dominates b c ≡ true → dominates a c ≡ true

abbrev pub Antisymmetric : Type 0
Antisymmetric = (a b : Class) → dominates a b ≡ true → dominates b a ≡ true → a ≡ b

-- the common part of two dominates just what both do
abbrev pub CommonPart : Type 0
CommonPart = (a b x : Class) → dominates (common a b) x ≡ (dominates a x && dominates b x)

-- ---- the view
abbrev pub ViewKeeps : Type 0
ViewKeeps = (w : ℕ) (c : Class) (s : Store) → rules w s ≡ true → rules w (view c s) ≡ true

abbrev pub ViewTwice : Type 0
ViewTwice = (C c : Class) (s : Store) → view c (view C s) ≡ view (common C c) s

abbrev pub ViewAgain : Type 0
ViewAgain = (c : Class) (s : Store) → view c (view c s) ≡ view c s

-- ---- a command keeps the rules; a refused one leaves store and room as found
abbrev pub CommandKeeps : Type 0
CommandKeeps = (w : ℕ) (s : Store) (o : Offer) → rules w s ≡ true → rules w (outcome w s o).store ≡ true

abbrev pub RefusalLeaves : Type 0
RefusalLeaves =
    (w : ℕ) (s : Store) (o : Offer) → accepts (outcome w s o).reply ≡ false
    → outcome w s o ≡ record { reply = (outcome w s o).reply; length = 0; room = o.room; store = s }

-- no room grows or shrinks
abbrev pub AnswerRoom : Type 0
AnswerRoom = (w : ℕ) (s : Store) (o : Offer) → length (outcome w s o).room ≡ length o.room

abbrev pub SheetRoom : Type 0
SheetRoom = (w : ℕ) (h : Heading) (s : Store) (room : Bytes) → length (writing w h s room).room ≡ length room

-- ---- given exactly when
-- a reply is given exactly when its row of the table holds and no row above it does
abbrev pub GivenExactly : Type 0
GivenExactly = (w room : ℕ) (s : Store) (l : Line) (r : Reply) → ((verdict w room s l).reply ≡ r) ↔ First r (all_rows w room s l)

-- what counts as accepted: 0 and 1
abbrev pub Accepting : Type 0
Accepting = (r : Reply) → (accepts r ≡ true) ↔ ((r ≡ Done) ⊎ (r ≡ LeftOut))

-- a command is accepted exactly when no refusal's row holds
abbrev pub AcceptedExactly : Type 0
AcceptedExactly =
    (w room : ℕ) (c : Class) (a : Action) (t : Table)
    → (accepts (judge w room c a (Some t)).reply ≡ true) ↔ (Above c t.class × NoneHolds (refusal_rows w room c a t))

-- that is, in the affirmative
abbrev pub AcceptedGood : Type 0
AcceptedGood =
    (w room : ℕ) (c : Class) (a : Action) (t : Table)
    → (accepts (judge w room c a (Some t)).reply ≡ true) ↔ (Above c t.class × Good w room c t a)

-- values of ours are equal as a condition asks just where they are one value
abbrev pub SameValue : Type 0
SameValue = (w : ℕ) (a b : Value) → value_sound w a ≡ true → value_sound w b ≡ true → (same_value a b ≡ true) ↔ (a ≡ b)

-- ---- what an accepted command does
-- accepted on the stored table t, whose class the client dominates
abbrev pub Accepts : ℕ → ℕ → Class → Action → Table → Type 0
Accepts w room c a t = accepts (judge w room c a (Some (open_table c t))).reply ≡ true

-- it is such a table that stands at the place named, and afterwards the changed one stands there
abbrev pub ChangesThere : Type 0
ChangesThere =
    (w room : ℕ) (s : Store) (k : Command) → accepts (judgement w room s k).reply ≡ true
    → (t : Table)
    × (table_at k.directory k.table s ≡ Some t)
    × Accepts w room k.clearance k.action t
    × (table_at k.directory k.table (changed w room s k) ≡ Some (change_table k.clearance k.action t))

abbrev pub ChangesNowhereElse : Type 0
ChangesNowhereElse =
    (w room : ℕ) (s : Store) (k : Command) (d t : ℕ) → ¬ ((d ≡ k.directory) × (t ≡ k.table))
    → table_at d t (changed w room s k) ≡ table_at d t s

-- nor do a directory's classes
abbrev pub DirectoriesStay : Type 0
DirectoriesStay =
    (w room : ℕ) (s : Store) (k : Command) (d : ℕ)
    → map_o classes_of (at d (changed w room s k)) ≡ map_o classes_of (at d s)

-- insert: the new row stands last, its existence class is the clearance; a column that the client sees holds the field given for it,
-- any other its default
abbrev pub InsertDoes : Type 0
InsertDoes =
    (w room : ℕ) (c : Class) (gs : List Given) (t : Table) → Accepts w room c (insert gs) t
    → (r : Row)
    × ((change_table c (insert gs) t).rows ≡ t.rows ++ (r ∷ []))
    × (r.exist ≡ c)
    × ((j : ℕ) → Visible (open_table c t) j → SomeOf (λ (g : Given). (g.column ≡ j) × (at j r.fields ≡ Some g.field)) gs)
    × ((j : ℕ) (k : Column) → at j t.columns ≡ Some k → ¬ Visible (open_table c t) j → at j r.fields ≡ Some k.default)

-- delete: just the rows named go
abbrev pub DeleteDoes : Type 0
DeleteDoes =
    (w room : ℕ) (c : Class) (is : List ℕ) (t : Table) → Accepts w room c (delete is) t
    → (change_table c (delete is) t).rows ≡ plainly c (strike_named is) t.rows

-- update: just the fields named change
abbrev pub UpdateDoes : Type 0
UpdateDoes =
    (w room : ℕ) (c : Class) (es : List Change) (t : Table) → Accepts w room c (update es) t
    → (change_table c (update es) t).rows ≡ plainly c (amend_named es) t.rows

-- select: nothing changes; a row is answered under its visible number just where it meets the condition
abbrev pub SelectDoes : Type 0
SelectDoes =
    (c : Class) (q : Option Condition) (t : Table)
    → (change_table c (select q) t ≡ t)
    × ((i : ℕ) (r : Row) → SomeOf (λ (x : Shown). (x.number ≡ i) × (x.row ≡ r)) (answer q t.rows) ↔ ((nth i t.rows ≡ Some r) × Met q r))

-- ---- demand 3
-- Run the whole tape on the store; apart from that make C's view, and run on it only the lines whose readable clearance C dominates, each
-- with the room that it was offered. Those get the same answers in both runs, and the two end states show C the same view.
abbrev pub Demand3 : Type 0
Demand3 =
    (w : ℕ) (C : Class) (tape : List Offer) (s : Store) → rules w s ≡ true
    → (known_of w C (log w s tape) ≡ log w (view C s) (known w C tape))
    × (view C (final w s tape) ≡ view C (final w (view C s) (known w C tape)))

-- ---- the round trip, for any number of hex digits and both headings
-- bytes are taken as a heading and a store just where they are that store's text under it, and it may stand there
abbrev pub RoundTrip : Type 0
RoundTrip =
    (w : ℕ) (bs : Bytes) (h : Heading) (s : Store)
    → (reading w bs ≡ taken h s) ↔ ((may_stand w h s ≡ true) × (length bs ≤ 65536) × (sheet_text w h s ≡ bs))

-- a sheet is refused exactly when its row of the table holds and no row above it does; the same of writing
abbrev pub ReadingExactly : Type 0
ReadingExactly = (w : ℕ) (bs : Bytes) (r : Reply) → (reading w bs ≡ refused r) ↔ First r (reading_rows w bs)

abbrev pub WritingExactly : Type 0
WritingExactly = (w : ℕ) (h : Heading) (s : Store) (room : Bytes) (r : Reply) → ((writing w h s room).reply ≡ r) ↔ First r (writing_rows w h s room)

-- a sheet that is taken under SHEET hides nothing
abbrev pub NothingHidden : Type 0
NothingHidden =
    (w : ℕ) (bs : Bytes) (s : Store) → reading w bs ≡ taken SHEET s → (d n : ℕ) (t : Table) → table_at d n s ≡ Some t
    → Every (λ (r : Row). (j : ℕ) (f : Field) → at j r.fields ≡ Some f → ¬ (f.value ≡ Hidden)) t.rows

-- a store that is written into a room is read back from it
abbrev pub WrittenReads : Type 0
WrittenReads =
    (w : ℕ) (h : Heading) (s : Store) (room : Bytes) → (writing w h s room).reply ≡ Done → (writing w h s room).length ≤ 65536
    → reading w (take (writing w h s room).length (writing w h s room).room) ≡ taken h s

-- ---- the clerk's cards
abbrev pub Cards : Type 0
Cards = got ≡ want
