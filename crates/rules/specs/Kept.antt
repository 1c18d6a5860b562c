-- The rules of the structs' parts, in the model's words. What is absent keeps them.
-- Assumes nothing.
use Rattle.std.specs.Prelude.{Bool, not, ◌||◌, List, map, ℕ}
use Rattle.model.specs.declared.Class.{Class}
use Rattle.model.specs.Places.{at, sure}
use Rattle.model.specs.Classes.{dominates}
use Rattle.model.specs.Rules.{berth_ok, same_berth, column_ok, table_ok, directory_ok, table_plain, directory_plain}
use Rattle.store.specs.declared.Berth.{Berth}
use Rattle.store.specs.declared.Group.{Group}
use Rattle.store.specs.declared.Column.{Column}
use Rattle.store.specs.declared.Table.{Table}
use Rattle.store.specs.declared.Directory.{Directory}
use Rattle.store.specs.Packed.{unpacked_berth, unpacked_group, column_of, table_of, directory_of}

-- ---- berths and columns
-- a berth between a table's class and its maximum
abbrev pub berth_kept : Class → Class → Berth → Bool
berth_kept class max b = not b.there || berth_ok class max b.class

-- two berths are there and of one class
abbrev pub alike : Berth → Berth → Bool
alike a b = same_berth (unpacked_berth a) (unpacked_berth b)

-- the group at a number is there and dominates a class
abbrev pub group_over : List Group → ℕ → Class → Bool
group_over gs n c = sure (λ (g : Class). dominates g c) (at n (map unpacked_group gs))

-- a column by the groups of its table
abbrev pub column_kept : List Group → Column → Bool
column_kept gs k = not k.there || column_ok (map unpacked_group gs) (column_of k)

-- ---- tables and directories
-- a table that is there keeps the rules
abbrev pub table_kept : Table → Bool
table_kept t = not t.there || table_ok (table_of t)

-- and so do the tables of a directory that is there
abbrev pub directory_kept : Directory → Bool
directory_kept d = not d.there || directory_ok (directory_of d)

-- ---- no field is hidden
-- in the rows of a table that is there
abbrev pub table_shown : Table → Bool
table_shown t = not t.there || table_plain (table_of t)

-- in the tables of a directory that is there
abbrev pub directory_shown : Directory → Bool
directory_shown d = not d.there || directory_plain (directory_of d)
