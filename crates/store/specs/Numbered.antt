-- Parts of a store by number.
-- Assumes nothing.
use Rattle.std.specs.Prelude.{false, List, [], ℕ, ◌%◌, set, get_or}
use Rattle.store.specs.declared.Table.{Table}
use Rattle.store.specs.declared.Directory.{Directory}
use Rattle.store.specs.declared.Store.{Store}
use Rattle.store.specs.Packed.{bottom}

-- what the logic reads past the end of an array; no read of the code goes there
abbrev pub past_table : Table
past_table = record { there = false; class = bottom; max = bottom; berths = []; groups = []; columns = []; count = 0; rows = [] }

abbrev pub past_directory : Directory
past_directory = record { there = false; exist = bottom; class = bottom; tables = [] }

-- a directory's number is taken of 4, a table's of 2
abbrev pub directory_at : Store → ℕ → Directory
directory_at s d = get_or s.dirs (d % 4) past_directory

abbrev pub table_at : Store → ℕ → ℕ → Table
table_at s d t = get_or (directory_at s d).tables (t % 2) past_table

-- a directory with other tables
abbrev pub with_tables : Directory → List Table → Directory
with_tables d l = record { there = d.there; exist = d.exist; class = d.class; tables = l }

-- the store with another table
abbrev pub put_table : Store → ℕ → ℕ → Table → Store
put_table s d t q = record { dirs = set s.dirs (d % 4) (with_tables (directory_at s d) (set (directory_at s d).tables (t % 2) q)) }
