-- A store of the model that keeps the rules is packed into canonical structs.
-- Assumes nothing.
use mathlib.Core.Path.{◌∙◌, ◌≡◌, ap, refl}
use mathlib.Core.Bool.{false≢true, true}
use mathlib.Core.List.{List, [], ◌∷◌, map}
use Rattle.std.specs.Prelude.{Option, None, Some}
use Prim.Native.Nat.{◌-◌, ◌≤◌, ℕ}
use native.Mathlib.Omega.{arith}
use lib.Dec.{eqb}
use lib.ListN.{drop, length, length-append, length-map, length-replicate, replicate}
use lib.Seq.{drop_at}
use borrow.Author.Tests.{eqb-true}
use Rattle.model.specs.declared.Class.{Class}
use Rattle.model.specs.declared.Field.{Field}
use Rattle.model.specs.Places.{Places, all, all_in, any, sure}
use Rattle.model.specs.Classes.{class_sound, same}
use Rattle.model.specs.Values.{carried, carried_level, field_sound, kind_letter, mark, same_value, value_sound}
use Rattle.model.specs.Parts as model
use Rattle.model.specs.Rules.{column_sound, directory_ok, directory_sound, field_ok, fields_ok, row_ok, row_sound, ruled, rules, sound, table_ok, table_sound}
use Rattle.model.proofs.Tests.{and-fst, and-snd, both}
use Rattle.model.proofs.Every.{facts, in_both, in_true}
use Rattle.model.proofs.AllLaws.{all_in-first, all_in-rest, unless}
use Rattle.model.proofs.RuleLaws.{table-rules}
use Rattle.model.proofs.SoundLaws.{table_sounds_lem}
use Rattle.model.proofs.RowCount.{at_most_32}
use Rattle.lists.specs.Folds.{all_pairs}
use Rattle.lists.specs.Pad.{pad}
use Rattle.store.specs.Packed.{no_berth, no_column, no_directory, no_field, no_group, no_row, no_table, packed, packed_berth, packed_column, packed_directory, packed_field, packed_group, packed_row, packed_table, rows_in}
use Rattle.store.specs.Canonical.{berth_tidy, canonical, column_empty, column_tidy, directory_empty, directory_tidy, field_empty, field_tidy, group_tidy, row_empty, row_tidy, table_empty, table_tidy}
use Rattle.store.proofs.PartLaws.{all_replicate, packed_all}
use Rattle.store.proofs.TidyLaws.{directory_tidy_lem, table_tidy_lem}
use Rattle.store.proofs.Forth.{rows-there}

-- ---- berths, groups, columns
berth_tidy_lem : (k : Class) → class_sound 8 k ≡ true → berth_tidy (packed_berth (Some k)) ≡ true
unfolding berth_tidy packed_berth
berth_tidy_lem k e = both (class_sound 8 k) true e refl

group_tidy_lem : (k : Class) → class_sound 8 k ≡ true → group_tidy (packed_group (Some k)) ≡ true
unfolding group_tidy packed_group
group_tidy_lem k e = both (class_sound 8 k) true e refl

column_tidy_lem : (k : model.Column) → column_sound 8 k ≡ true → column_tidy (packed_column (Some k)) ≡ true
unfolding column_tidy packed_column column_sound
column_tidy_lem k e = both (field_sound 8 k.default) true e refl

-- ---- the constants
no_berth_tidy : berth_tidy no_berth ≡ true
unfolding berth_tidy class_sound same
no_berth_tidy = refl

no_group_tidy : group_tidy no_group ≡ true
unfolding group_tidy class_sound same
no_group_tidy = refl

no_column_tidy : column_tidy no_column ≡ true
unfolding column_tidy column_empty field_sound field_empty value_sound class_sound same same_value mark carried carried_level kind_letter
no_column_tidy = refl

no_field_tidy : field_tidy no_column no_field ≡ true
unfolding field_tidy field_sound field_empty value_sound class_sound same same_value mark carried carried_level
no_field_tidy = refl

no_row_empty : row_empty no_row ≡ true
unfolding row_empty field_empty same same_value mark carried carried_level
no_row_empty = refl

no_table_tidy : table_tidy no_table ≡ true
unfolding rows_in table_empty same class_sound
no_table_tidy =
    table_tidy_lem no_table
    (record {
      class = refl;
      max = refl;
      berths = all_replicate berth_tidy no_berth 4 no_berth_tidy;
      groups = all_replicate group_tidy no_group 4 no_group_tidy;
      columns = all_replicate column_tidy no_column 8 no_column_tidy;
      count = omega arith;
      rows = refl;
      rest = all_replicate row_empty no_row 32 no_row_empty;
      absent = refl;
      long = record { berths4 = refl; groups4 = refl; columns8 = refl; rows32 = refl };
    })

no_directory_tidy : directory_tidy no_directory ≡ true
unfolding directory_empty same class_sound
no_directory_tidy =
    directory_tidy_lem no_directory
    (record { exist = refl; class = refl; tables = all_replicate table_tidy no_table 2 no_table_tidy; absent = refl; tables2 = refl })

-- ---- rows
field_tidy_lem : (k : Option model.Column) (f : Option Field) → field_ok k f ≡ true → unless (field_sound 8) f ≡ true → field_tidy (packed_column k) (packed_field f) ≡ true
unfolding field_ok field_tidy packed_column packed_field
field_tidy_lem None None e h = no_field_tidy
field_tidy_lem None (Some f) e h = absurd (false≢true e)
field_tidy_lem (Some k) None e h = absurd (false≢true e)
field_tidy_lem (Some k) (Some f) e h = both (field_sound 8 f) true h refl

fields_tidy : (ks : Places model.Column) (fs : Places Field) → fields_ok ks fs ≡ true → all_in (field_sound 8) fs ≡ true
    → all_pairs field_tidy (map packed_column ks) (map packed_field fs) ≡ true
unfolding fields_ok
fields_tidy [] [] e h = refl
fields_tidy [] (f ∷ fs) e h = absurd (false≢true e)
fields_tidy (k ∷ ks) [] e h = absurd (false≢true e)
fields_tidy (k ∷ ks) (f ∷ fs) e h =
    both (field_tidy (packed_column k) (packed_field f)) (all_pairs field_tidy (map packed_column ks) (map packed_field fs))
    (field_tidy_lem k f (and-fst (field_ok k f) (fields_ok ks fs) e) (all_in-first (field_sound 8) f fs h))
    (fields_tidy ks fs (and-snd (field_ok k f) (fields_ok ks fs) e) (all_in-rest (field_sound 8) f fs h))

rows_tidy : (bs : Places Class) (ks : Places model.Column) (rs : List model.Row) → all (row_ok bs ks) rs ≡ true → all (row_sound 8) rs ≡ true
    → all (row_tidy (map packed_column ks)) (map packed_row rs) ≡ true
unfolding row_ok row_sound row_tidy packed_row
rows_tidy bs ks [] e h = refl
rows_tidy bs ks (r ∷ rs) e h =
    let o = and-snd (any (sure (same r.exist)) bs) (fields_ok ks r.fields) (and-fst (row_ok bs ks r) (all (row_ok bs ks) rs) e) in
    let s = and-fst (row_sound 8 r) (all (row_sound 8) rs) h in
    both (row_tidy (map packed_column ks) (packed_row r)) (all (row_tidy (map packed_column ks)) (map packed_row rs))
    (both (class_sound 8 r.exist) (all_pairs field_tidy (map packed_column ks) (map packed_field r.fields))
    (and-fst (class_sound 8 r.exist) (all_in (field_sound 8) r.fields) s)
    (fields_tidy ks r.fields o (and-snd (class_sound 8 r.exist) (all_in (field_sound 8) r.fields) s)))
    (rows_tidy bs ks rs (and-snd (row_ok bs ks r) (all (row_ok bs ks) rs) e) (and-snd (row_sound 8 r) (all (row_sound 8) rs) h))

-- the rows past those that are there
rows_past : (m : ℕ) (l : List model.Row) → all row_empty (drop (length l) (pad no_row m (map packed_row l))) ≡ true
unfolding pad
rows_past m l =
    ap (all row_empty) (drop_at (map packed_row l) (replicate (m - length (map packed_row l)) no_row) (length l) (length-map l packed_row))
    ∙ all_replicate row_empty no_row (m - length (map packed_row l)) no_row_empty

pad-long : (m : ℕ) (l : List model.Row) → length l ≤ m → length (pad no_row m (map packed_row l)) ≡ m
unfolding pad
pad-long m l h =
    length-append (map packed_row l) (replicate (m - length (map packed_row l)) no_row)
    ∙ omega (arith, length-map l packed_row, length-replicate (m - length (map packed_row l)) no_row)

-- ---- tables, directories, the store
table-packed : (t : model.Table) → (table_ok t ≡ true) × (table_sound 8 t ≡ true) → table_tidy (packed_table (Some t)) ≡ true
unfolding packed_table packed_berth packed_group packed_column rows_in
table-packed t e =
    let o = table-rules t e.0 in
    let s = table_sounds_lem 8 t e.1 in
    table_tidy_lem (packed_table (Some t))
    (record {
      class = s.class;
      max = s.max;
      berths = packed_all (λ (k : Class). class_sound 8 k ≡ true) berth_tidy packed_berth no_berth_tidy berth_tidy_lem t.berths (in_true (class_sound 8) t.berths s.berths);
      groups = packed_all (λ (k : Class). class_sound 8 k ≡ true) group_tidy packed_group no_group_tidy group_tidy_lem t.groups (in_true (class_sound 8) t.groups s.groups);
      columns =
          packed_all (λ (k : model.Column). column_sound 8 k ≡ true) column_tidy packed_column no_column_tidy column_tidy_lem t.columns (in_true (column_sound 8) t.columns s.columns);
      count = at_most_32 t e.0;
      rows = ap (all (row_tidy (map packed_column t.columns))) (rows-there 32 t.rows) ∙ rows_tidy t.berths t.columns t.rows o.filled s.rows;
      rest = rows_past 32 t.rows;
      absent = refl;
      long =
          record {
            berths4 = length-map t.berths packed_berth ∙ eqb-true (length t.berths) 4 o.berths4;
            groups4 = length-map t.groups packed_group ∙ eqb-true (length t.groups) 4 o.groups4;
            columns8 = length-map t.columns packed_column ∙ eqb-true (length t.columns) 8 o.columns8;
            rows32 = pad-long 32 t.rows (at_most_32 t e.0);
          };
    })

directory-packed : (d : model.Directory) → (directory_ok d ≡ true) × (directory_sound 8 d ≡ true) → directory_tidy (packed_directory (Some d)) ≡ true
unfolding packed_directory directory_ok directory_sound packed_table
directory-packed d e =
    let l = d.tables in
    let s = facts (class_sound 8 d.exist ∷ class_sound 8 d.class ∷ all_in (table_sound 8) l ∷ []) e.1 in
    directory_tidy_lem (packed_directory (Some d))
    (record {
      exist = s.0;
      class = s.1.0;
      tables =
          packed_all (λ (t : model.Table). (table_ok t ≡ true) × (table_sound 8 t ≡ true)) table_tidy packed_table no_table_tidy table-packed l
          (in_both (λ (t : model.Table). table_ok t ≡ true) (λ (t : model.Table). table_sound 8 t ≡ true) l
          (in_true table_ok l (and-snd (eqb (length l) 2) (all_in table_ok l) e.0)) (in_true (table_sound 8) l s.1.1.0));
      absent = refl;
      tables2 = length-map l packed_table ∙ eqb-true (length l) 2 (and-fst (eqb (length l) 2) (all_in table_ok l) e.0);
    })

pub packed-canonical : (s : model.Store) → rules 8 s ≡ true → canonical (packed s) ≡ true
unfolding rules ruled sound canonical packed packed_directory
packed-canonical s e =
    let o = and-fst (ruled s) (sound 8 s) e in
    both (all directory_tidy (map packed_directory s)) (eqb (length (map packed_directory s)) 4)
    (packed_all (λ (d : model.Directory). (directory_ok d ≡ true) × (directory_sound 8 d ≡ true)) directory_tidy packed_directory no_directory_tidy directory-packed s
    (in_both (λ (d : model.Directory). directory_ok d ≡ true) (λ (d : model.Directory). directory_sound 8 d ≡ true) s
    (in_true directory_ok s (and-snd (eqb (length s) 4) (all_in directory_ok s) o)) (in_true (directory_sound 8) s (and-snd (ruled s) (sound 8 s) e))))
    (rw length-map (and-fst (eqb (length s) 4) (all_in directory_ok s) o))
