-- Commands, and the lines that hold them. 01, "Sheets and tapes", the paragraph "A command".
-- Assumes nothing.
use Rattle.std.specs.Prelude.{Bool, cond, not, List, [], ◌∷◌, ℕ, leb, length}
use Rattle.std.specs.Prelude.{Option, None, Some}
use Prim.Native.Char.{code}
use Rattle.model.specs.declared.Class.{Class}
use Rattle.model.specs.declared.Value.{Value}
use Rattle.model.specs.declared.Field.{Field}
use Rattle.model.specs.Places.{when, map_o}
use Rattle.model.specs.Values.{is_hidden}
use Rattle.model.specs.Numbers.{Bytes, bytes, read_dec}
use Rattle.model.specs.Lines.{fields_of, is_text}
use Rattle.model.specs.Forms.{◌>>=◌}
use Rattle.model.specs.Texts.{read_letter, read_class, read_value}

-- ---- what a command says
pub record Given : Type 0 where
  pub column : ℕ
  pub field : Field

-- an entry of an update: a new class alone, a new value alone, or both
pub data New : Type 0 where
  new_class : Class → New
  new_value : Value → New
  new_field : Field → New

pub record Change : Type 0 where
  pub row : ℕ
  pub column : ℕ
  pub new : New

pub record Condition : Type 0 where
  pub column : ℕ
  pub value : Value

pub data Action : Type 0 where
  insert : List Given → Action
  delete : List ℕ → Action
  update : List Change → Action
  select : Option Condition → Action

pub record Command : Type 0 where
  pub clearance : Class
  pub directory : ℕ
  pub table : ℕ
  pub action : Action

-- a line as it is read. One that opens with no class is nobody's
pub data Line : Type 0 where
  nobodys : Line
  unformed : Class → Line
  command : Command → Line

-- whose line it is
unfoldable pub client : Line → Option Class
client nobodys = None
client (unformed c) = Some c
client (command k) = Some k.clearance

-- ---- reading
pub data Verb : Type 0 where
  I X U S : Verb

abbrev pub verbs : List (ℕ × Verb)
verbs = (code "I", I) ∷ (code "X", X) ∷ (code "U", U) ∷ (code "S", S) ∷ []

module _ (w : ℕ) where
  -- `?` is not a command's value
  unfoldable pub read_plain : Bytes → Option Value
  read_plain l = read_value w l >>= λ (v : Value). when (not (is_hidden v)) v

  -- column, class, value
  unfoldable pub read_givens : List Bytes → Option (List Given)
  read_givens [] = Some []
  read_givens (c ∷ []) = None
  read_givens (c ∷ k ∷ []) = None
  read_givens (c ∷ k ∷ v ∷ l) = do
    n ← read_dec 7 c
    x ← read_class w k
    y ← read_plain v
    gs ← read_givens l
    Some (record { column = n; field = record { class = x; value = y } } ∷ gs)

  -- row numbers
  unfoldable pub read_rows : List Bytes → Option (List ℕ)
  read_rows [] = Some []
  read_rows (r ∷ l) = do
    n ← read_dec 31 r
    ns ← read_rows l
    Some (n ∷ ns)

  -- a new class or "=", a new value or "=", not both "="
  unfoldable pub read_new : Bytes → Bytes → Option New
  read_new k v =
      cond (is_text k (bytes "="))
      (map_o new_value (read_plain v))
      (read_class w k >>= λ (x : Class). cond (is_text v (bytes "=")) (Some (new_class x)) (map_o (λ (y : Value). new_field (record { class = x; value = y })) (read_plain v)))

  -- row, column, class, value
  unfoldable pub read_changes : List Bytes → Option (List Change)
  read_changes [] = Some []
  read_changes (r ∷ []) = None
  read_changes (r ∷ c ∷ []) = None
  read_changes (r ∷ c ∷ k ∷ []) = None
  read_changes (r ∷ c ∷ k ∷ v ∷ l) = do
    i ← read_dec 31 r
    j ← read_dec 7 c
    n ← read_new k v
    es ← read_changes l
    Some (record { row = i; column = j; new = n } ∷ es)

  -- nothing, or column and value
  unfoldable pub read_condition : List Bytes → Option (Option Condition)
  read_condition [] = Some None
  read_condition (c ∷ []) = None
  read_condition (c ∷ v ∷ []) = do
    n ← read_dec 7 c
    x ← read_plain v
    Some (Some (record { column = n; value = x }))
  read_condition (c ∷ v ∷ y ∷ l) = None

  -- not more than n entries
  abbrev pub at_most : {A : Type 0} → ℕ → List A → Option (List A)
  at_most n l = when (leb (length l) n) l

  unfoldable pub read_action : Verb → List Bytes → Option Action
  read_action I l = map_o insert (read_givens l >>= at_most 8)
  read_action X l = map_o delete (read_rows l >>= at_most 32)
  read_action U l = map_o update (read_changes l >>= at_most 32)
  read_action S l = map_o select (read_condition l)

  -- verb, directory, table, and what the verb takes
  unfoldable pub read_command : Class → List Bytes → Option Command
  read_command k [] = None
  read_command k (v ∷ []) = None
  read_command k (v ∷ d ∷ []) = None
  read_command k (v ∷ d ∷ t ∷ l) = do
    x ← read_letter verbs v
    i ← read_dec 3 d
    j ← read_dec 1 t
    a ← read_action x l
    Some (record { clearance = k; directory = i; table = j; action = a })

  abbrev pub formed : Class → Option Command → Line
  formed k None = unformed k
  formed k (Some x) = command x

  abbrev pub opened : Option Class → (Class → Line) → Line
  opened None f = nobodys
  opened (Some k) f = f k

  -- the class before anything else; a line longer than 2,048 bytes is not of the form
  unfoldable pub read_parts : Bool → List Bytes → Line
  read_parts short [] = nobodys
  read_parts short (k ∷ l) = opened (read_class w k) (λ (x : Class). cond short (formed x (read_command x l)) (unformed x))

  -- a line without its line feed
  unfoldable pub read_line : Bytes → Line
  read_line l = read_parts (leb (length l) 2048) (fields_of l)
