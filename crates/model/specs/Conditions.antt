-- The rows of the reply table once more, as propositions: what 01 says of each reply, without the tests of Checks. Claims ties the two.
-- Assumes nothing.
use Rattle.std.specs.Prelude.{◌≡◌, ◌⊎◌, true, List, [], ◌++◌, ◌∷◌, ◌%◌, ◌/◌, ◌<◌, ◌^◌, ◌≤◌, suc, zero, ℕ, Float, length}
use Rattle.std.specs.Prelude.{Option, None, Some}
use Rattle.model.specs.declared.Class.{Class}
use Rattle.model.specs.declared.Field.{Field}
use Rattle.model.specs.declared.Kind.{Kind}
use Rattle.model.specs.declared.Kind.TheVariants.{Classes, Counts, Rates}
use Rattle.model.specs.declared.Reply.{Reply}
use Rattle.model.specs.declared.Reply.TheVariants.{BadLine, BadSheet, BerthFull, Done, LeftOut, Misfit, NamedTwice, NoBerth, NoColumn, NoRow, NoTable, NotNamed, NotYours, RoomShort, RuleBroken, SheetLong, TableAbove, Uncovers}
use Rattle.model.specs.declared.Value.{Value}
use Rattle.model.specs.declared.Value.TheVariants.{Blank, Classed, Count, Hidden, Nan, Rate}
use Rattle.model.specs.Places.{at, nth}
use Rattle.model.specs.Parts.{Column, Row, Store, Table, table_at}
use Rattle.model.specs.Rules.{rules}
use Rattle.model.specs.View.{view}
use Rattle.model.specs.Numbers.{Bytes}
use Rattle.model.specs.Sheets.{Heading, may_stand, read_sheet, sheet_text}
use Rattle.model.specs.Commands.{Action, Change, Command, Condition, Given, Line, New, command, delete, insert, new_class, new_field, new_value, nobodys, select, unformed, update}
use Rattle.model.specs.Answers.{answer, answer_text}

-- ---- lists and places
module _ {A : Type 0} where
  -- an element has P
  abbrev pub SomeOf : (A → Type 0) → List A → Type 0
  SomeOf P [] = ⊥
  SomeOf P (a ∷ l) = P a ⊎ SomeOf P l

  abbrev pub Every : (A → Type 0) → List A → Type 0
  Every P [] = Unit {0}
  Every P (a ∷ l) = P a × Every P l

  -- two elements at different places stand in R
  abbrev pub Twice : (A → A → Type 0) → List A → Type 0
  Twice R [] = ⊥
  Twice R (a ∷ l) = SomeOf (R a) l ⊎ Twice R l

  -- n elements, at least, have P
  abbrev pub AtLeast : ℕ → (A → Type 0) → List A → Type 0
  AtLeast zero P l = Unit {0}
  AtLeast (suc n) P [] = ⊥
  AtLeast (suc n) P (a ∷ l) = (P a × AtLeast n P l) ⊎ AtLeast (suc n) P l

  -- something is there, and it has P
  abbrev pub There : (A → Type 0) → Option A → Type 0
  There P o = (a : A) × (o ≡ Some a) × P a

-- ---- classes and values
-- the class has the mark number i, from 0
abbrev pub Marked : ℕ → Class → Type 0
Marked i k = k.marks / 2 ^ i % 2 ≡ 1

-- a dominates b: a level at least as high, and every mark of b
abbrev pub Above : Class → Class → Type 0
Above a b = (b.level ≤ a.level) × ((i : ℕ) → Marked i b → Marked i a)

abbrev pub OfKind : Kind → Value → Type 0
OfKind Counts v = (n : ℕ) × (v ≡ Count n)
OfKind Rates v = ((x : Float) × (v ≡ Rate x)) ⊎ ((b : ℕ) × (v ≡ Nan b))
OfKind Classes v = (k : Class) × (v ≡ Classed k)

abbrev pub Fits : Kind → Value → Type 0
Fits k v = (v ≡ Blank) ⊎ OfKind k v

-- ---- the client's table
abbrev pub Visible : Table → ℕ → Type 0
Visible t j = There (λ (k : Column). Unit {0}) (at j t.columns)

-- the column takes the value
abbrev pub Takes : Table → ℕ → Value → Type 0
Takes t j v = There (λ (k : Column). Fits k.kind v) (at j t.columns)

abbrev pub TakesNot : Table → ℕ → Value → Type 0
TakesNot t j v = There (λ (k : Column). ¬ Fits k.kind v) (at j t.columns)

-- the value that an entry brings, if it brings one
abbrev pub Brings : New → Value → Type 0
Brings n v = (n ≡ new_value v) ⊎ ((k : Class) × (n ≡ new_field (record { class = k; value = v })))

-- an entry that the row takes from the client: any on its own row; on another's a new value alone, where the field's class dominates
abbrev pub Allowed : Class → Change → Row → Type 0
Allowed c e r =
    (r.exist ≡ c)
    ⊎ ((v : Value) × (e.new ≡ new_value v) × There (λ (f : Field). Above f.class c) (at e.column r.fields))

-- a new class alone on a hidden field
abbrev pub Uncovering : Change → Row → Type 0
Uncovering e r = (k : Class) × (e.new ≡ new_class k) × There (λ (f : Field). f.value ≡ Hidden) (at e.column r.fields)

-- ---- the rows of the table for a verb: a reply, and when it is given, if no row above it holds
abbrev pub Rows : Type 1
Rows = List (Reply × Type 0)

module _ (w room : ℕ) (c : Class) where
  abbrev pub refusal_rows : Action → Table → Rows
  refusal_rows (insert gs) t =
      (NamedTwice, Twice (λ (g h : Given). g.column ≡ h.column) gs)
      ∷ (NoColumn, SomeOf (λ (g : Given). ¬ Visible t g.column) gs)
      ∷ (NotNamed, (j : ℕ) × Visible t j × (¬ SomeOf (λ (g : Given). g.column ≡ j) gs))
      ∷ (Misfit, SomeOf (λ (g : Given). TakesNot t g.column g.field.value) gs)
      ∷ (NoBerth, ¬ ((i : ℕ) × (at i t.berths ≡ Some c)))
      ∷ (BerthFull, AtLeast 8 (λ (r : Row). r.exist ≡ c) t.rows)
      ∷ []
  refusal_rows (delete is) t =
      (NamedTwice, Twice (λ (i j : ℕ). i ≡ j) is)
      ∷ (NoRow, SomeOf (λ (i : ℕ). length t.rows ≤ i) is)
      ∷ (NotYours, SomeOf (λ (i : ℕ). There (λ (r : Row). ¬ (r.exist ≡ c)) (nth i t.rows)) is)
      ∷ []
  refusal_rows (update es) t =
      (NamedTwice, Twice (λ (e f : Change). (e.row ≡ f.row) × (e.column ≡ f.column)) es)
      ∷ (NoColumn, SomeOf (λ (e : Change). ¬ Visible t e.column) es)
      ∷ (NoRow, SomeOf (λ (e : Change). length t.rows ≤ e.row) es)
      ∷ (Misfit, SomeOf (λ (e : Change). (v : Value) × Brings e.new v × TakesNot t e.column v) es)
      ∷ (NotYours, SomeOf (λ (e : Change). There (λ (r : Row). ¬ Allowed c e r) (nth e.row t.rows)) es)
      ∷ (Uncovers, SomeOf (λ (e : Change). There (Uncovering e) (nth e.row t.rows)) es)
      ∷ []
  refusal_rows (select q) t =
      (NoColumn, There (λ (x : Condition). ¬ Visible t x.column) q)
      ∷ (Misfit, There (λ (x : Condition). TakesNot t x.column x.value) q)
      ∷ (RoomShort, room < length (answer_text w (answer q t.rows)))
      ∷ []

  -- a visible row's condition field is hidden
  abbrev pub hidden_rows : Action → Table → Rows
  hidden_rows (insert gs) t = []
  hidden_rows (delete is) t = []
  hidden_rows (update es) t = []
  hidden_rows (select q) t =
      (LeftOut, There (λ (x : Condition). SomeOf (λ (r : Row). There (λ (f : Field). f.value ≡ Hidden) (at x.column r.fields)) t.rows) q) ∷ []

  -- by the table that the client's view has at the place named
  abbrev pub table_rows : Action → Option Table → Rows
  table_rows a None = (NoTable, Unit {0}) ∷ []
  table_rows a (Some t) = (TableAbove, ¬ Above c t.class) ∷ (refusal_rows a t ++ (hidden_rows a t ++ ((Done, Unit {0}) ∷ [])))

module _ (w room : ℕ) (s : Store) where
  abbrev pub command_rows : Command → Rows
  command_rows k = table_rows w room k.clearance k.action (table_at k.directory k.table (view k.clearance s))

  abbrev pub line_rows : Line → Rows
  line_rows nobodys = (BadLine, Unit {0}) ∷ []
  line_rows (unformed c) = (BadLine, Unit {0}) ∷ []
  line_rows (command k) = command_rows k

  abbrev pub all_rows : Line → Rows
  all_rows l = (RuleBroken, ¬ (rules w s ≡ true)) ∷ line_rows l

-- ---- the rows for sheets: reading, and writing into a room
module _ (w : ℕ) where
  abbrev pub reading_rows : Bytes → Rows
  reading_rows bs =
      (SheetLong, 65536 < length bs)
      ∷ (BadSheet, ¬ There (λ (x : Heading × Store). Unit {0}) (read_sheet w bs))
      ∷ (RuleBroken, There (λ (x : Heading × Store). ¬ (may_stand w x.0 x.1 ≡ true)) (read_sheet w bs))
      ∷ []

  abbrev pub writing_rows : Heading → Store → Bytes → Rows
  writing_rows h s room =
      (RuleBroken, ¬ (may_stand w h s ≡ true))
      ∷ (RoomShort, length room < length (sheet_text w h s))
      ∷ (Done, Unit {0})
      ∷ []

-- r is the reply of the first row that holds
abbrev pub First : Reply → Rows → Type 0
First r [] = ⊥
First r (x ∷ xs) = ((r ≡ x.0) × x.1) ⊎ ((¬ x.1) × First r xs)

-- no row holds
abbrev pub NoneHolds : Rows → Type 0
NoneHolds [] = Unit {0}
NoneHolds (x ∷ xs) = (¬ x.1) × NoneHolds xs

-- ---- what an accepted command is, row by row, in the affirmative
module _ (w room : ℕ) (c : Class) (t : Table) where
  pub record GoodInsert (gs : List Given) : Type 0 where
    pub once : ¬ Twice (λ (g h : Given). g.column ≡ h.column) gs
    pub seen : Every (λ (g : Given). Visible t g.column) gs
    pub whole : (j : ℕ) → Visible t j → SomeOf (λ (g : Given). g.column ≡ j) gs
    pub fit : Every (λ (g : Given). Takes t g.column g.field.value) gs
    pub berth : (i : ℕ) × (at i t.berths ≡ Some c)
    pub free : ¬ AtLeast 8 (λ (r : Row). r.exist ≡ c) t.rows

  pub record GoodDelete (is : List ℕ) : Type 0 where
    pub once : ¬ Twice (λ (i j : ℕ). i ≡ j) is
    pub own : Every (λ (i : ℕ). There (λ (r : Row). r.exist ≡ c) (nth i t.rows)) is

  pub record GoodUpdate (es : List Change) : Type 0 where
    pub once : ¬ Twice (λ (e f : Change). (e.row ≡ f.row) × (e.column ≡ f.column)) es
    pub seen : Every (λ (e : Change). Visible t e.column) es
    pub fit : Every (λ (e : Change). (v : Value) → Brings e.new v → Takes t e.column v) es
    pub allowed : Every (λ (e : Change). There (Allowed c e) (nth e.row t.rows)) es
    pub covered : Every (λ (e : Change). (r : Row) → nth e.row t.rows ≡ Some r → ¬ Uncovering e r) es

  pub record GoodSelect (q : Option Condition) : Type 0 where
    pub seen : (x : Condition) → q ≡ Some x → Visible t x.column
    pub fit : (x : Condition) → q ≡ Some x → Takes t x.column x.value
    pub roomy : length (answer_text w (answer q t.rows)) ≤ room

  abbrev pub Good : Action → Type 0
  Good (insert gs) = GoodInsert gs
  Good (delete is) = GoodDelete is
  Good (update es) = GoodUpdate es
  Good (select q) = GoodSelect q
