-- A store with one part more in its last table.
-- Assumes nothing.
use Rattle.std.specs.Bool.{MatchBool}
use Rattle.std.specs.Prelude.{◌≡◌, Bool, true, cond, ◌&&◌, ℕ, ◌+◌, Option, None, set, get_or, drop, ltb, not}
use Rattle.model.specs.declared.Class.{Class}
use Rattle.model.specs.Places.{all, map_o, when}
use Rattle.store.specs.declared.Directory.{Directory}
use Rattle.store.specs.declared.Store.{Store}
use Rattle.store.specs.declared.Table.{Table}
use Rattle.store.specs.Canonical.{table_away}
use Rattle.store.specs.Numbered.{past_directory, past_table}
use Rattle.store.specs.Packed.{no_directory, no_table}

abbrev pub directory_away : Directory → Bool
directory_away d = not d.there

abbrev pub directory_of : ℕ → Store → Directory
directory_of d s = get_or s.dirs d past_directory

abbrev pub table_of : ℕ → ℕ → Store → Table
table_of d t s = get_or (directory_of d s).tables t past_table

-- a table that stands, with nothing behind it, in a directory that stands
unfoldable pub stands_last : ℕ → Directory → Bool
stands_last t d = d.there && (ltb t 2 && ((get_or d.tables t past_table).there && all table_away (drop (t + 1) d.tables)))

-- and nothing behind the directory
unfoldable pub is_last : ℕ → ℕ → Store → Bool
is_last d t s = ltb d 4 && (all directory_away (drop (d + 1) s.dirs) && stands_last t (directory_of d s))

-- the store with another table there
abbrev pub with_table : ℕ → ℕ → Table → Store → Store
with_table d t q s = record { dirs = set s.dirs d (record (directory_of d s) { tables = set (directory_of d s).tables t q }) }

-- a step of that table
unfoldable pub in_table : ℕ → ℕ → (Table → Option Table) → Store → Option Store
in_table d t step s = cond (is_last d t s) (map_o (λ (q : Table). with_table d t q s) (step (table_of d t s))) None

-- what a function made of a store by a change R of the last table: nothing, where the table is not that
abbrev pub ChangesTable : {U : Type 0} → (Table → Option U → Table → Type 0) → ℕ → ℕ → Store → Option U → Store → Type 0
ChangesTable R d t old done new =
    MatchBool (is_last d t old) ((q : Table) × R (table_of d t old) done q × (new ≡ with_table d t q old)) ((done ≡ None) × (new ≡ old))

-- ---- a table with nothing in it, behind the last that stands
unfoldable pub table_may : ℕ → Directory → Bool
table_may t d = d.there && (ltb t 2 && all table_away (drop t d.tables))

unfoldable pub table_fits : ℕ → ℕ → Store → Bool
table_fits d t s = ltb d 4 && (all directory_away (drop (d + 1) s.dirs) && table_may t (directory_of d s))

abbrev pub bare_table : Class → Class → Table
bare_table k m = record no_table { there = true; class = k; max = m }

unfoldable pub table_set : ℕ → ℕ → Class → Class → Store → Option Store
table_set d t k m s = when (table_fits d t s) (with_table d t (bare_table k m) s)

-- ---- a directory, likewise
unfoldable pub directory_fits : ℕ → Store → Bool
directory_fits d s = ltb d 4 && all directory_away (drop d s.dirs)

abbrev pub bare_directory : Class → Class → Directory
bare_directory x k = record no_directory { there = true; exist = x; class = k }

unfoldable pub directory_set : ℕ → Class → Class → Store → Option Store
directory_set d x k s = when (directory_fits d s) (record { dirs = set s.dirs d (bare_directory x k) })
