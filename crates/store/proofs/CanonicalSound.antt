-- What a canonical store stands for has only classes and values of ours.
-- Assumes nothing.
use mathlib.Core.Path.{◌≡◌, refl}
use mathlib.Core.Bool.{◌||◌, true}
use mathlib.Core.List.{List, [], ◌∷◌, map, zip_with}
use lib.Dec.{eqb}
use lib.ListN.{length}
use Rattle.model.specs.declared.Field.{Field}
use Rattle.model.specs.Places.{all, all_in}
use Rattle.model.specs.Classes.{class_sound, same}
use Rattle.model.specs.Values.{field_sound}
use Rattle.model.specs.Rules.{column_sound, directory_sound, row_sound, sound, table_sound}
use Rattle.model.proofs.Tests.{and-fst, and_right, and-snd, both}
use Rattle.model.proofs.Every.{of_facts}
use Rattle.model.proofs.AllLaws.{all_in-more, unless, unless-when}
use Rattle.model.proofs.SoundLaws.{table_sound_lem}
use Rattle.lists.specs.Folds.{all_pairs}
use Rattle.store.specs.declared.Row.{Row}
use Rattle.store.specs.declared.Berth.{Berth}
use Rattle.store.specs.declared.Group.{Group}
use Rattle.store.specs.declared.Column.{Column}
use Rattle.store.specs.declared.Table.{Table}
use Rattle.store.specs.declared.Directory.{Directory}
use Rattle.store.specs.declared.Store.{Store}
use Rattle.store.specs.Packed.{bottom, column_of, directory_of, rows_in, table_of, unpacked, unpacked_berth, unpacked_column, unpacked_directory, unpacked_field, unpacked_group, unpacked_row, unpacked_table}
use Rattle.store.specs.Canonical.{berth_tidy, canonical, column_empty, column_tidy, directory_tidy, field_empty, field_tidy, group_tidy, row_tidy, table_tidy}
use Rattle.store.proofs.PartLaws.{unpacked-all}
use Rattle.store.proofs.TidyLaws.{tidy_directory, tidy_table}

-- ---- berths, groups, columns
berth-sound : (b : Berth) → berth_tidy b ≡ true → unless (class_sound 8) (unpacked_berth b) ≡ true
unfolding berth_tidy unpacked_berth
berth-sound b e = unless-when (class_sound 8) b.there b.class (λ p. and-fst (class_sound 8 b.class) (b.there || same b.class bottom) e)

group-sound : (g : Group) → group_tidy g ≡ true → unless (class_sound 8) (unpacked_group g) ≡ true
unfolding group_tidy unpacked_group
group-sound g e = unless-when (class_sound 8) g.there g.exist (λ p. and-fst (class_sound 8 g.exist) (g.there || same g.exist bottom) e)

column_sound_lem : (k : Column) → column_tidy k ≡ true → unless (column_sound 8) (unpacked_column k) ≡ true
unfolding column_tidy unpacked_column column_of column_sound
column_sound_lem k e = unless-when (column_sound 8) k.there (column_of k) (λ p. and-fst (field_sound 8 k.default) (k.there || column_empty k) e)

-- ---- rows
fields-sound : (ks : List Column) (fs : List Field) → all_pairs field_tidy ks fs ≡ true → all_in (field_sound 8) (zip_with unpacked_field ks fs) ≡ true
unfolding field_tidy unpacked_field zip_with
fields-sound [] fs e = refl
fields-sound (k ∷ ks) [] e = refl
fields-sound (k ∷ ks) (f ∷ fs) e =
    let h = and-fst (field_sound 8 f) (k.there || field_empty f) (and-fst (field_tidy k f) (all_pairs field_tidy ks fs) e) in
    all_in-more (field_sound 8) (unpacked_field k f) (zip_with unpacked_field ks fs)
    (unless-when (field_sound 8) k.there f (λ p. h)) (fields-sound ks fs (and-snd (field_tidy k f) (all_pairs field_tidy ks fs) e))

rows-sound : (ks : List Column) (rs : List Row) → all (row_tidy ks) rs ≡ true → all (row_sound 8) (map (unpacked_row ks) rs) ≡ true
unfolding row_tidy unpacked_row row_sound
rows-sound ks [] e = refl
rows-sound ks (r ∷ rs) e =
    both (row_sound 8 (unpacked_row ks r)) (all (row_sound 8) (map (unpacked_row ks) rs))
    (and_right (class_sound 8 r.exist) (all_pairs field_tidy ks r.fields) (all_in (field_sound 8) (zip_with unpacked_field ks r.fields))
    (fields-sound ks r.fields) (and-fst (row_tidy ks r) (all (row_tidy ks) rs) e))
    (rows-sound ks rs (and-snd (row_tidy ks r) (all (row_tidy ks) rs) e))

-- ---- tables, directories, the store
table-ours : (t : Table) → table_tidy t ≡ true → unless (table_sound 8) (unpacked_table t) ≡ true
unfolding unpacked_table table_of
table-ours t e =
    let y = tidy_table t e in
    unless-when (table_sound 8) t.there (table_of t)
    (λ p. table_sound_lem 8 (table_of t)
    (record {
      class = y.class;
      max = y.max;
      berths = unpacked-all berth_tidy (class_sound 8) unpacked_berth berth-sound t.berths y.berths;
      groups = unpacked-all group_tidy (class_sound 8) unpacked_group group-sound t.groups y.groups;
      columns = unpacked-all column_tidy (column_sound 8) unpacked_column column_sound_lem t.columns y.columns;
      rows = rows-sound t.columns (rows_in t) y.rows;
    }))

directory-ours : (d : Directory) → directory_tidy d ≡ true → unless (directory_sound 8) (unpacked_directory d) ≡ true
unfolding unpacked_directory directory_of directory_sound
directory-ours d e =
    let y = tidy_directory d e in
    unless-when (directory_sound 8) d.there (directory_of d)
    (λ p. of_facts (class_sound 8 d.exist ∷ class_sound 8 d.class ∷ all_in (table_sound 8) (map unpacked_table d.tables) ∷ [])
    (y.exist, (y.class, (unpacked-all table_tidy (table_sound 8) unpacked_table table-ours d.tables y.tables, tt))))

pub canonical-sound : (s : Store) → canonical s ≡ true → sound 8 (unpacked s) ≡ true
unfolding canonical unpacked sound
canonical-sound s e =
    unpacked-all directory_tidy (directory_sound 8) unpacked_directory directory-ours s.dirs (and-fst (all directory_tidy s.dirs) (eqb (length s.dirs) 4) e)
