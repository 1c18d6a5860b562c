-- A store cut to the rows that the structs keep: 32 in each table.
-- Assumes nothing.
use Rattle.std.specs.Prelude.{Bool, true, false, map, take}
use Rattle.model.specs.Places.{map_o}
use Rattle.model.specs.Parts as model
use Rattle.model.specs.Records.{Part, TablePart, berth, column, directory, group, inside, row, table}

abbrev pub cut_table : model.Table → model.Table
cut_table t = record t { rows = take 32 t.rows }

abbrev pub cut_directory : model.Directory → model.Directory
cut_directory d = record d { tables = map (map_o cut_table) d.tables }

unfoldable pub cut : model.Store → model.Store
cut s = map (map_o cut_directory) s

-- ---- the parts that are rows
abbrev pub a_row : TablePart → Bool
a_row (table k m) = false
a_row (berth x) = false
a_row (group x) = false
a_row (column x) = false
a_row (row k fs) = true

abbrev pub is_row : Part → Bool
is_row (directory x k) = false
is_row (inside x) = a_row x.1
