-- Records: the parts of a store in the order in which a sheet lists them, and the store that records make, placed one after another.
-- 01, "Sheets and tapes": the order of parts, and that a part under an absent parent is not of the form.
-- Assumes nothing.
use Rattle.std.specs.Prelude.{Bool, true, false, ◌&&◌, List, [], ◌∷◌, ◌++◌, map, ℕ, zero, suc}
use Rattle.std.specs.Prelude.{Option, None, Some}
use Rattle.model.specs.declared.Class.{Class}
use Rattle.model.specs.declared.Field.{Field}
use Rattle.model.specs.Places.{Places, map_o, nones, filled}
use Rattle.model.specs.Parts.{Row, Column, Table, Directory, Store}

-- ---- records: a part with the numbers that lead to it, as (0, inside (1, berth (2, k)))
pub data TablePart : Type 0 where
  table : Class → Class → TablePart  -- class, maximum
  berth : ℕ × Class → TablePart
  group : ℕ × Class → TablePart
  column : ℕ × Column → TablePart
  row : Class → List Field → TablePart  -- existence, a field for each column

pub data Part : Type 0 where
  directory : Class → Class → Part  -- existence, class
  inside : ℕ × TablePart → Part

abbrev pub Record : Type 0
Record = ℕ × Part

-- ---- the records of a store, in order
module _ {R : Type 0} where
  abbrev pub first : R → ℕ × R
  first r = (zero, r)

  abbrev pub later : ℕ × R → ℕ × R
  later x = (suc x.0, x.1)

-- of what may be absent
abbrev pub of_option : {A R : Type 0} → (A → List R) → Option A → List R
of_option f None = []
of_option f (Some a) = f a

-- of each part that is there, with its number
abbrev pub numbered : {A R : Type 0} → (A → List R) → Places A → List (ℕ × R)
numbered f [] = []
numbered f (o ∷ l) = map first (of_option f o) ++ map later (numbered f l)

abbrev pub single : {A : Type 0} → A → List A
single a = a ∷ []

unfoldable pub row_record : Row → TablePart
row_record r = row r.exist (filled r.fields)

unfoldable pub table_records : Table → List TablePart
table_records t =
    table t.class t.max
    ∷ (map berth (numbered single t.berths)
    ++ (map group (numbered single t.groups)
    ++ (map column (numbered single t.columns)
    ++ map row_record t.rows)))

unfoldable pub directory_records : Directory → List Part
directory_records d = directory d.exist d.class ∷ map inside (numbered table_records d.tables)

unfoldable pub records : Store → List Record
records s = numbered directory_records s

-- ---- placing: a record comes behind all that stands. Nothing is there yet at its place, nor at any later one.
-- all places are empty
abbrev pub vacant : {A : Type 0} → Places A → Bool
vacant [] = true
vacant (None ∷ l) = vacant l
vacant (Some a ∷ l) = false

abbrev pub no_rows : List Row → Bool
no_rows [] = true
no_rows (r ∷ rs) = false

-- only where the test passes
abbrev pub provided : {A : Type 0} → Bool → Option A → Option A
provided true o = o
provided false o = None

-- a record of the part at number n goes to that part, if all later places are empty
abbrev pub place_at : {A R : Type 0} → (R → Option A → Option (Option A)) → ℕ → R → Places A → Option (Places A)
place_at f n r [] = None
place_at f zero r (o ∷ l) = provided (vacant l) (map_o (λ (x : Option _). x ∷ l) (f r o))
place_at f (suc n) r (o ∷ l) = map_o (λ (x : Places _). o ∷ x) (place_at f n r l)

abbrev pub place_in : {A R : Type 0} → (R → Option A → Option (Option A)) → ℕ × R → Places A → Option (Places A)
place_in f x l = place_at f x.0 x.1 l

-- a part that is one record
abbrev pub fresh : {A : Type 0} → A → Option A → Option (Option A)
fresh a None = Some (Some a)
fresh a (Some b) = None

-- one field for each column that is there, in order, and none left over
unfoldable pub spread : Places Column → List Field → Option (Places Field)
spread [] [] = Some []
spread [] (f ∷ fs) = None
spread (None ∷ ks) fs = map_o (λ (l : Places Field). None ∷ l) (spread ks fs)
spread (Some k ∷ ks) [] = None
spread (Some k ∷ ks) (f ∷ fs) = map_o (λ (l : Places Field). Some f ∷ l) (spread ks fs)

-- a table with these parts
abbrev pub table_of : Class → Class → Places Class → Places Class → Places Column → List Row → Table
table_of k m bs gs cs rs = record { class = k; max = m; berths = bs; groups = gs; columns = cs; rows = rs }

unfoldable pub place_inside : TablePart → Table → Option Table
place_inside (table k m) t = None
place_inside (berth x) t =
    provided (vacant t.groups && (vacant t.columns && no_rows t.rows))
    (map_o (λ (l : Places Class). table_of t.class t.max l t.groups t.columns t.rows) (place_in fresh x t.berths))
place_inside (group x) t =
    provided (vacant t.columns && no_rows t.rows)
    (map_o (λ (l : Places Class). table_of t.class t.max t.berths l t.columns t.rows) (place_in fresh x t.groups))
place_inside (column x) t =
    provided (no_rows t.rows)
    (map_o (λ (l : Places Column). table_of t.class t.max t.berths t.groups l t.rows) (place_in fresh x t.columns))
place_inside (row k fs) t =
    map_o (λ (l : Places Field). table_of t.class t.max t.berths t.groups t.columns (t.rows ++ (record { exist = k; fields = l } ∷ []))) (spread t.columns fs)

unfoldable pub place_table : TablePart → Option Table → Option (Option Table)
place_table (table k m) None = Some (Some (table_of k m (nones 4) (nones 4) (nones 8) []))
place_table (berth x) None = None
place_table (group x) None = None
place_table (column x) None = None
place_table (row k fs) None = None
place_table p (Some t) = map_o Some (place_inside p t)

unfoldable pub place_part : Part → Option Directory → Option (Option Directory)
place_part (directory x k) None = Some (Some (record { exist = x; class = k; tables = nones 2 }))
place_part (directory x k) (Some d) = None
place_part (inside p) None = None
place_part (inside p) (Some d) = map_o (λ (l : Places Table). Some (record { exist = d.exist; class = d.class; tables = l })) (place_in place_table p d.tables)

unfoldable pub place : Record → Store → Option Store
place r s = place_in place_part r s
