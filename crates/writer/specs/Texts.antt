-- The text of a table and of a directory by the structs of the code: the lines of the model's records.
-- Assumes nothing.
use Rattle.std.specs.Prelude.{cond, [], ℕ}
use Rattle.model.specs.Numbers.{Bytes}
use Rattle.model.specs.Lines.{flat}
use Rattle.model.specs.Records.{table_records, directory_records}
use Rattle.store.specs.declared.Table.{Table}
use Rattle.store.specs.declared.Directory.{Directory}
use Rattle.store.specs.Packed.{table_of, directory_of}
use Rattle.entries.specs.Lines.{line_in, table_line}

-- a table's lines
unfoldable pub table_lines : ℕ → ℕ → Table → Bytes
table_lines d t q = flat (table_line d t) (table_records (table_of q))

-- where the table is there
unfoldable pub table_text : ℕ → ℕ → Table → Bytes
table_text d t q = cond q.there (table_lines d t q) []

-- a directory's lines
unfoldable pub directory_lines : ℕ → Directory → Bytes
directory_lines d x = flat (line_in d) (directory_records (directory_of x))

-- where the directory is there
unfoldable pub directory_text : ℕ → Directory → Bytes
directory_text d x = cond x.there (directory_lines d x) []
