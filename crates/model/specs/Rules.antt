-- The rules that a store keeps, as a test. 01, "What the store holds": the list below the table of parts, in its order.
-- A row's field may be hidden here, as in a view; `plain` is the test that SHEET adds.
-- Assumes nothing.
use Rattle.std.specs.Prelude.{Bool, true, false, ◌&&◌, ◌||◌, not, List, [], ◌∷◌, ℕ, zero, eqb, leb, length}
use Rattle.std.specs.Prelude.{Option, None, Some}
use Rattle.model.specs.declared.Class.{Class}
use Rattle.model.specs.declared.Kind.{Kind}
use Rattle.model.specs.declared.Value.{Value}
use Rattle.model.specs.declared.Field.{Field}
use Rattle.model.specs.Places.{Places, at, any, all, all_in, twice, sure, conj, tick}
use Rattle.model.specs.Classes.{dominates, same, class_sound}
use Rattle.model.specs.Values.{fits, is_hidden, field_sound}
use Rattle.model.specs.Parts.{Row, Column, Table, Directory, Store}

-- ---- berths: between the table's class and its maximum, no two of equal class
unfoldable pub berth_ok : Class → Class → Class → Bool
berth_ok class max b = dominates b class && dominates max b

unfoldable pub same_berth : Option Class → Option Class → Bool
same_berth None o = false
same_berth (Some a) None = false
same_berth (Some a) (Some b) = same a b

-- ---- columns: the group is there and dominates the default's class, and the default is blank or of the kind
unfoldable pub column_ok : Places Class → Column → Bool
column_ok groups k = sure (λ (g : Class). dominates g k.default.class) (at k.group groups) && fits k.kind k.default.value

-- ---- rows: one field for each column, of its kind, blank or hidden; the existence class is a berth's
unfoldable pub value_ok : Kind → Value → Bool
value_ok k v = fits k v || is_hidden v

unfoldable pub field_ok : Option Column → Option Field → Bool
field_ok None None = true
field_ok None (Some f) = false
field_ok (Some k) None = false
field_ok (Some k) (Some f) = value_ok k.kind f.value

unfoldable pub fields_ok : Places Column → Places Field → Bool
fields_ok [] [] = true
fields_ok [] (f ∷ fs) = false
fields_ok (k ∷ ks) [] = false
fields_ok (k ∷ ks) (f ∷ fs) = field_ok k f && fields_ok ks fs

unfoldable pub row_ok : Places Class → Places Column → Row → Bool
row_ok berths columns r = any (sure (same r.exist)) berths && fields_ok columns r.fields

-- how many rows a berth has, and that they are at most 8
unfoldable pub in_berth : Class → List Row → ℕ
in_berth c [] = zero
in_berth c (r ∷ rs) = tick (same r.exist c) (in_berth c rs)

unfoldable pub room_ok : List Row → Class → Bool
room_ok rows b = leb (in_berth b rows) 8

-- ---- the rules of a table, in the order of 01; then the numbers of its places
unfoldable pub table_tests : Table → List Bool
table_tests t =
    dominates t.max t.class
    ∷ all_in (berth_ok t.class t.max) t.berths
    ∷ not (twice same_berth t.berths)
    ∷ all_in (column_ok t.groups) t.columns
    ∷ all (row_ok t.berths t.columns) t.rows
    ∷ all_in (room_ok t.rows) t.berths
    ∷ eqb (length t.berths) 4
    ∷ eqb (length t.groups) 4
    ∷ eqb (length t.columns) 8
    ∷ []

unfoldable pub table_ok : Table → Bool
table_ok t = conj (table_tests t)

unfoldable pub directory_ok : Directory → Bool
directory_ok d = eqb (length d.tables) 2 && all_in table_ok d.tables

unfoldable pub ruled : Store → Bool
ruled s = eqb (length s) 4 && all_in directory_ok s

-- ---- each class and value is one of ours
module _ (w : ℕ) where
  unfoldable pub column_sound : Column → Bool
  column_sound k = field_sound w k.default

  unfoldable pub row_sound : Row → Bool
  row_sound r = class_sound w r.exist && all_in (field_sound w) r.fields

  unfoldable pub table_sounds : Table → List Bool
  table_sounds t =
      class_sound w t.class
      ∷ class_sound w t.max
      ∷ all_in (class_sound w) t.berths
      ∷ all_in (class_sound w) t.groups
      ∷ all_in column_sound t.columns
      ∷ all row_sound t.rows
      ∷ []

  unfoldable pub table_sound : Table → Bool
  table_sound t = conj (table_sounds t)

  unfoldable pub directory_sound : Directory → Bool
  directory_sound d = conj (class_sound w d.exist ∷ class_sound w d.class ∷ all_in table_sound d.tables ∷ [])

  unfoldable pub sound : Store → Bool
  sound s = all_in directory_sound s

  -- ---- a store that keeps the rules
  unfoldable pub rules : Store → Bool
  rules s = ruled s && sound s

-- ---- no row's field is hidden: what SHEET asks beside the rules
unfoldable pub field_plain : Field → Bool
field_plain f = not (is_hidden f.value)

unfoldable pub row_plain : Row → Bool
row_plain r = all_in field_plain r.fields

unfoldable pub table_plain : Table → Bool
table_plain t = all row_plain t.rows

unfoldable pub directory_plain : Directory → Bool
directory_plain d = all_in table_plain d.tables

unfoldable pub plain : Store → Bool
plain s = all_in directory_plain s
