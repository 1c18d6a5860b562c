-- When the structs are the ones that stand for a store: each absent part, each field of an absent column and each row past the count is
-- its constant, and each class and value is one of ours, with 8 hex digits of marks. The lengths are those that the types give.
-- Assumes nothing.
use Rattle.std.specs.Prelude.{Bool, ◌&&◌, ◌||◌, not, List, [], ◌∷◌, eqb, leb, length, drop}
use Prim.Native.Char.{code}
use Rattle.model.specs.declared.Value.TheVariants.{Blank}
use Rattle.model.specs.declared.Field.{Field}
use Rattle.model.specs.Places.{all, conj}
use Rattle.model.specs.Classes.{same, class_sound}
use Rattle.model.specs.Values.{kind_letter, same_value, field_sound}
use Rattle.lists.specs.Folds.{all_pairs}
use Rattle.store.specs.declared.Row.{Row}
use Rattle.store.specs.declared.Berth.{Berth}
use Rattle.store.specs.declared.Group.{Group}
use Rattle.store.specs.declared.Column.{Column}
use Rattle.store.specs.declared.Table.{Table}
use Rattle.store.specs.declared.Directory.{Directory}
use Rattle.store.specs.declared.Store.{Store}
use Rattle.store.specs.Packed.{bottom, rows_in}

-- ---- what is not there
abbrev pub berth_away : Berth → Bool
berth_away b = not b.there

abbrev pub group_away : Group → Bool
group_away g = not g.there

abbrev pub column_away : Column → Bool
column_away k = not k.there

abbrev pub table_away : Table → Bool
table_away t = not t.there

-- ---- berths and groups: of a class of ours, and of the lowest where absent
unfoldable pub berth_tidy : Berth → Bool
berth_tidy b = class_sound 8 b.class && (b.there || same b.class bottom)

unfoldable pub group_tidy : Group → Bool
group_tidy g = class_sound 8 g.exist && (g.there || same g.exist bottom)

-- ---- columns: with a default of ours, and the constant where absent
-- a field that is the constant
unfoldable pub field_empty : Field → Bool
field_empty f = same f.class bottom && same_value f.value Blank

-- what the constant holds, but for its mark
unfoldable pub column_empty : Column → Bool
column_empty k = (eqb k.group 0 && eqb (kind_letter k.kind) (code "N")) && field_empty k.default

unfoldable pub column_tidy : Column → Bool
column_tidy k = field_sound 8 k.default && (k.there || column_empty k)

-- ---- rows: of a class of ours, with a field for each column, of ours too and the constant where the column is absent
unfoldable pub field_tidy : Column → Field → Bool
field_tidy k f = field_sound 8 f && (k.there || field_empty f)

unfoldable pub row_tidy : List Column → Row → Bool
row_tidy ks r = class_sound 8 r.exist && all_pairs field_tidy ks r.fields

-- a row that is the constant
unfoldable pub row_empty : Row → Bool
row_empty r = (same r.exist bottom && all field_empty r.fields) && eqb (length r.fields) 8

-- ---- tables: with tidy parts, the constant past the count, and the constant where absent
-- what the constant holds, of a table with tidy parts
unfoldable pub table_empty : Table → List Bool
table_empty t =
    same t.class bottom
    ∷ same t.max bottom
    ∷ all berth_away t.berths
    ∷ all group_away t.groups
    ∷ all column_away t.columns
    ∷ eqb t.count 0
    ∷ []

-- the lengths of its arrays
unfoldable pub table_lengths : Table → List Bool
table_lengths t = eqb (length t.berths) 4 ∷ eqb (length t.groups) 4 ∷ eqb (length t.columns) 8 ∷ eqb (length t.rows) 32 ∷ []

unfoldable pub table_parts : Table → List Bool
table_parts t =
    class_sound 8 t.class
    ∷ class_sound 8 t.max
    ∷ all berth_tidy t.berths
    ∷ all group_tidy t.groups
    ∷ all column_tidy t.columns
    ∷ leb t.count 32
    ∷ all (row_tidy t.columns) (rows_in t)
    ∷ all row_empty (drop t.count t.rows)
    ∷ (t.there || conj (table_empty t))
    ∷ []

unfoldable pub table_tidy : Table → Bool
table_tidy t = conj (table_parts t) && conj (table_lengths t)

-- ---- directories, likewise, and the store
unfoldable pub directory_empty : Directory → List Bool
directory_empty d = same d.exist bottom ∷ same d.class bottom ∷ all table_away d.tables ∷ []

unfoldable pub directory_parts : Directory → List Bool
directory_parts d =
    class_sound 8 d.exist ∷ class_sound 8 d.class ∷ all table_tidy d.tables ∷ (d.there || conj (directory_empty d)) ∷ []

unfoldable pub directory_tidy : Directory → Bool
directory_tidy d = conj (directory_parts d) && eqb (length d.tables) 2

unfoldable pub canonical : Store → Bool
canonical s = all directory_tidy s.dirs && eqb (length s.dirs) 4
