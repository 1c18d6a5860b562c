-- What a record that was read from a line says.
-- Assumes nothing.
use Rattle.std.specs.Prelude.{Bool, true, List, [], ◌∷◌, ℕ, leb, length}
use Rattle.std.specs.Prelude.{Option, None, Some}
use Rattle.model.specs.declared.Class.{Class}
use Rattle.model.specs.declared.Field.{Field}
use Rattle.model.specs.Forms.{◌>>=◌, pick}
use Rattle.model.specs.Numbers.{Bytes}
use Rattle.model.specs.Places.{when}
use Rattle.model.specs.Records as model
use Rattle.model.specs.Sheets.{Letter, letters, read_by}
use Rattle.record.specs.declared.Record.{Record}
use Rattle.record.specs.declared.Record.TheVariants.{Berth, Column, Directory, Group, Row, Table}
use Rattle.record.specs.declared.Slot.{Slot}

-- ---- the numbers and the class that berths and groups have alike
abbrev pub in_slot : Slot → ℕ × (ℕ × (ℕ × Class))
in_slot s = (s.directory, (s.table, (s.number, s.class)))

-- ---- the fields of a row: those that stand before the first empty place
abbrev pub leading : List (Option Field) → List Field
leading [] = []
leading (None ∷ l) = []
leading (Some f ∷ l) = f ∷ leading l

-- ---- the record
abbrev pub record_in : Record → model.Record
record_in (Directory d x k) = (d, model.directory x k)
record_in (Table d t k m) = (d, model.inside (t, model.table k m))
record_in (Berth s) = (s.directory, model.inside (s.table, model.berth (s.number, s.class)))
record_in (Group s) = (s.directory, model.inside (s.table, model.group (s.number, s.class)))
record_in (Column d t n g k f) = (d, model.inside (t, model.column (n, record { group = g; kind = k; default = f })))
record_in (Row d t k fs) = (d, model.inside (t, model.row k (leading fs)))

-- ---- rows of at most eight fields: no table has more columns, so that a wider one can not be placed
-- fields, if they are not more than eight
abbrev pub eight : List Field → Option (List Field)
eight fs = when (leb (length fs) 8) fs

-- of a table, of a directory, of a store: a record that is no row of more than eight fields
abbrev pub narrow_in : model.TablePart → Bool
narrow_in (model.table k m) = true
narrow_in (model.berth x) = true
narrow_in (model.group x) = true
narrow_in (model.column x) = true
narrow_in (model.row k fs) = leb (length fs) 8

abbrev pub narrow_part : model.Part → Bool
narrow_part (model.directory x k) = true
narrow_part (model.inside p) = narrow_in p.1

unfoldable pub narrow : model.Record → Bool
narrow r = narrow_part r.1

-- a record, if it is narrow
unfoldable pub few : Option model.Record → Option model.Record
few o = o >>= λ (r : model.Record). when (narrow r) r

-- ---- behind the letter of a line
-- the record by the letter's byte and the fields behind it
unfoldable pub read_led : ℕ → List Bytes → Option model.Record
read_led b l = pick letters b >>= λ (x : Letter). read_by 8 x l
