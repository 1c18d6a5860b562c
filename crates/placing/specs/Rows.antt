-- A table with one row more, behind its last: a field for each column that is there, in the order of the columns.
-- Assumes nothing.
use Rattle.std.specs.Prelude.{Bool, true, false, cond, List, [], ◌∷◌, ◌+◌, Option, Some, None, set, ltb}
use Rattle.model.specs.declared.Class.{Class}
use Rattle.model.specs.declared.Field.{Field}
use Rattle.model.specs.Places.{map_o}
use Rattle.store.specs.declared.Column.{Column}
use Rattle.store.specs.declared.Table.{Table}
use Rattle.placing.specs.declared.rows.RowSet.{RowSet}
use Rattle.placing.specs.declared.rows.RowSet.TheVariants.{Kept, Full}
use Rattle.store.specs.Packed.{no_field}

-- ---- a row's fields: one for each column that is there, in order, the constant for the others, and none left over
abbrev pub spread : List Column → List Field → Option (List Field)
spread [] [] = Some []
spread [] (f ∷ fs) = None
spread (k ∷ ks) [] = cond k.there None (map_o (λ (l : List Field). no_field ∷ l) (spread ks []))
spread (k ∷ ks) (f ∷ fs) =
    cond k.there (map_o (λ (l : List Field). f ∷ l) (spread ks fs)) (map_o (λ (l : List Field). no_field ∷ l) (spread ks (f ∷ fs)))

-- ---- a row behind the last
-- whether a table can hold one more
abbrev pub has_place : Table → Bool
has_place t = ltb t.count 32

-- what the answer is of a row whose fields fit
abbrev pub kept : Bool → RowSet
kept true = Kept
kept false = Full

-- the table with a row more, or as it was where it can hold no more
unfoldable pub with_row : Class → List Field → Table → Table
with_row x l t = cond (has_place t) (record t { rows = set t.rows t.count (record { exist = x; fields = l }); count = t.count + 1 }) t

-- the same, of a record's fields: none where they don't fit the columns
unfoldable pub row_set : Class → List Field → Table → Option Table
row_set x fields t = map_o (λ (l : List Field). with_row x l t) (spread t.columns fields)
