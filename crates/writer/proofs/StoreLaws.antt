-- The text of a store is that of its structs, part by part.
-- Assumes nothing.
use mathlib.Core.Path.{◌∙◌, ◌≡◌, ap, ap₂}
use mathlib.Core.Bool.{Bool, cond, false, true}
use mathlib.Core.List.{List, [], ◌++◌, map}
use lib.ListN.{take}
use Prim.Native.Nat.{ℕ}
use Rattle.model.specs.declared.Class.{Class}
use Rattle.model.specs.Lines.{ended, flat, unlines}
use Rattle.model.specs.Numbers.{Bytes}
use Rattle.model.specs.Parts as model
use Rattle.model.specs.Records.{TablePart, berth, column, directory, directory_records, group, inside, numbered, records, row_record, single, table, table_records}
use Rattle.model.specs.Sheets.{record_line, store_text}
use Rattle.room.specs.Writing.{each}
use Rattle.store.specs.declared.Berth.{Berth}
use Rattle.store.specs.declared.Column.{Column}
use Rattle.store.specs.declared.Directory.{Directory}
use Rattle.store.specs.declared.Group.{Group}
use Rattle.store.specs.declared.Row.{Row}
use Rattle.store.specs.declared.Store.{Store}
use Rattle.store.specs.declared.Table.{Table}
use Rattle.store.specs.Packed.{column_of, directory_of, rows_in, table_of, unpacked, unpacked_berth, unpacked_column, unpacked_directory, unpacked_group, unpacked_row, unpacked_table}
use Rattle.entries.specs.Lines.{berth_text, column_text, group_text, line_in, line_text, row_text, table_line}
use Rattle.writer.specs.Texts.{directory_lines, directory_text, table_lines, table_text}
use Rattle.entries.proofs.FlatLaws.{flat_append, flat_map}
use Rattle.writer.proofs.NumberedLaws.{line_if, numbered-each, text_if}

module _ (d t : ℕ) where
  -- ---- parts of a table
  berths : (l : List Berth) → flat (table_line d t) (map berth (numbered single (map unpacked_berth l))) ≡ each (berth_text d t) 0 l
  unfolding berth_text unpacked_berth
  berths l =
      flat_map (table_line d t) berth (numbered single (map unpacked_berth l))
      ∙ numbered-each single unpacked_berth (berth_text d t) (λ (x : ℕ × Class). table_line d t (berth x)) l (λ n b. line_if (λ (k : Class). table_line d t (berth (n, k))) b.there b.class)

  groups : (l : List Group) → flat (table_line d t) (map group (numbered single (map unpacked_group l))) ≡ each (group_text d t) 0 l
  unfolding group_text unpacked_group
  groups l =
      flat_map (table_line d t) group (numbered single (map unpacked_group l))
      ∙ numbered-each single unpacked_group (group_text d t) (λ (x : ℕ × Class). table_line d t (group x)) l (λ n g. line_if (λ (k : Class). table_line d t (group (n, k))) g.there g.exist)

  columns : (l : List Column) → flat (table_line d t) (map column (numbered single (map unpacked_column l))) ≡ each (column_text d t) 0 l
  unfolding column_text unpacked_column
  columns l =
      flat_map (table_line d t) column (numbered single (map unpacked_column l))
      ∙ numbered-each single unpacked_column (column_text d t) (λ (x : ℕ × model.Column). table_line d t (column x)) l
      (λ n k. line_if (λ (m : model.Column). table_line d t (column (n, m))) k.there (column_of k))

  rows : (ks : List Column) (l : List Row) → flat (table_line d t) (map row_record (map (unpacked_row ks) l)) ≡ flat (row_text d t ks) l
  unfolding row_text
  rows ks l = flat_map (table_line d t) row_record (map (unpacked_row ks) l) ∙ flat_map (λ (r : model.Row). table_line d t (row_record r)) (unpacked_row ks) l

  -- ---- a table: its own line, berths, groups, columns, rows
  pub table_lines_lem : (q : Table)
      → table_lines d t q
      ≡ table_line d t (table q.class q.max)
      ++ (each (berth_text d t) 0 q.berths ++ (each (group_text d t) 0 q.groups ++ (each (column_text d t) 0 q.columns ++ flat (row_text d t q.columns) (rows_in q))))
  unfolding table_lines table_records table_of
  table_lines_lem q =
      let bs = map berth (numbered single (map unpacked_berth q.berths)) in
      let gs = map group (numbered single (map unpacked_group q.groups)) in
      let cs = map column (numbered single (map unpacked_column q.columns)) in
      let rs = map row_record (map (unpacked_row q.columns) (rows_in q)) in
      let u = table_line d t in
      let both : (a b : Bytes) (l m : List TablePart) → flat u l ≡ a → flat u m ≡ b → flat u (l ++ m) ≡ a ++ b =
      λ a b l m e k. flat_append u l m ∙ ap₂ (λ (x y : Bytes). x ++ y) e k in
      ap (λ (x : Bytes). u (table q.class q.max) ++ x)
      (both _ _ bs (gs ++ (cs ++ rs)) (berths q.berths) (both _ _ gs (cs ++ rs) (groups q.groups) (both _ _ cs rs (columns q.columns) (rows q.columns (rows_in q)))))

  pub table_there : (q : Table) → q.there ≡ true
      → table_text d t q
      ≡ table_line d t (table q.class q.max)
      ++ (each (berth_text d t) 0 q.berths ++ (each (group_text d t) 0 q.groups ++ (each (column_text d t) 0 q.columns ++ flat (row_text d t q.columns) (take q.count q.rows))))
  unfolding table_text rows_in
  table_there q e = ap (λ (b : Bool). cond b (table_lines d t q) []) e ∙ table_lines_lem q

  pub table_absent : (q : Table) → q.there ≡ false → table_text d t q ≡ []
  unfolding table_text
  table_absent q e = ap (λ (b : Bool). cond b (table_lines d t q) []) e

pub ruleset tables = (table_there, table_absent)

-- ---- a directory: its own line, then its tables
pub directory_lines_lem : (d : ℕ) (x : Directory) → directory_lines d x ≡ line_in d (directory x.exist x.class) ++ each (table_text d) 0 x.tables
unfolding directory_lines directory_records directory_of unpacked_table table_text table_lines table_line line_in
directory_lines_lem d x =
    ap (λ (y : Bytes). line_in d (directory x.exist x.class) ++ y)
    (flat_map (line_in d) inside (numbered table_records (map unpacked_table x.tables))
    ∙ numbered-each table_records unpacked_table (table_text d) (λ (y : ℕ × TablePart). line_in d (inside y)) x.tables
    (λ t q. text_if (table_line d t) table_records q.there (table_of q)))

pub directory_there : (d : ℕ) (x : Directory) → x.there ≡ true → directory_text d x ≡ line_in d (directory x.exist x.class) ++ each (table_text d) 0 x.tables
unfolding directory_text
directory_there d x e = ap (λ (b : Bool). cond b (directory_lines d x) []) e ∙ directory_lines_lem d x

pub directory_absent : (d : ℕ) (x : Directory) → x.there ≡ false → directory_text d x ≡ []
unfolding directory_text
directory_absent d x e = ap (λ (b : Bool). cond b (directory_lines d x) []) e

pub ruleset directories = (directory_there, directory_absent)

-- ---- the store
pub store_text_lem : (s : Store) → store_text 8 (unpacked s) ≡ each directory_text 0 s.dirs
unfolding store_text unlines records unpacked unpacked_directory directory_text directory_lines line_in
store_text_lem s =
    flat_map ended (record_line 8) (numbered directory_records (map unpacked_directory s.dirs))
    ∙ numbered-each directory_records unpacked_directory directory_text line_text s.dirs (λ d x. text_if (line_in d) directory_records x.there (directory_of x))
