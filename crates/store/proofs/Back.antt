-- A canonical store is the packing of what it stands for.
-- Assumes nothing.
use mathlib.Core.Path.{◌∙◌, ◌≡◌, ap, ap₂, refl, sym}
use mathlib.Core.Bool.{◌&&◌, ◌||◌, false, false≢true, true}
use mathlib.Core.List.{List, [], ◌++◌, ◌∷◌, map, zip_with}
use Rattle.std.specs.Prelude.{Some}
use Prim.Native.Nat.{◌-◌, ◌≤◌, ℕ}
use Prim.Native.Char.{code}
use native.Mathlib.Omega.{arith}
use lib.Dec.{eqb}
use lib.ListN.{drop, length, length-drop, length-map, length-take, replicate, take, take-append-drop}
use borrow.Author.Tests.{eqb-true}
use Rattle.model.specs.declared.Field.{Field}
use Rattle.model.specs.declared.Kind.{Kind}
use Rattle.model.specs.declared.Kind.TheVariants.{Classes, Counts, Rates}
use Rattle.model.specs.declared.Value.{Value}
use Rattle.model.specs.declared.Value.TheVariants.{Blank, Classed, Count, Hidden, Nan, Rate}
use Rattle.model.specs.Places.{all, conj}
use Rattle.model.specs.Classes.{class_sound, same}
use Rattle.model.specs.Values.{field_sound, kind_letter, mark, same_value}
use Rattle.model.proofs.Tests.{and-fst, and-snd}
use Rattle.model.proofs.OrderLaws.{same_eq}
use Rattle.model.proofs.Every.{facts}
use Rattle.lists.specs.Folds.{all_pairs}
use Rattle.lists.specs.Pad.{pad}
use Rattle.store.specs.declared.Row.{Row}
use Rattle.store.specs.declared.Berth.{Berth}
use Rattle.store.specs.declared.Group.{Group}
use Rattle.store.specs.declared.Column.{Column}
use Rattle.store.specs.declared.Table.{Table}
use Rattle.store.specs.declared.Directory.{Directory}
use Rattle.store.specs.declared.Store.{Store}
use Rattle.store.specs.Packed.{bottom, column_of, directory_of, no_berth, no_column, no_directory, no_field, no_group, no_row, no_table, packed, packed_berth, packed_column, packed_directory, packed_field, packed_group, packed_row, packed_table, rows_in, table_of, unpacked, unpacked_berth, unpacked_column, unpacked_directory, unpacked_field, unpacked_group, unpacked_row, unpacked_table}
use Rattle.store.specs.Canonical.{berth_away, berth_tidy, canonical, column_away, column_empty, column_tidy, directory_empty, directory_tidy, field_empty, field_tidy, group_away, group_tidy, row_empty, row_tidy, table_away, table_empty, table_tidy}
use Rattle.store.proofs.PartLaws.{all_back, all_both, all_one, away_is, other, packs_back}
use Rattle.store.proofs.TidyLaws.{TidyDirectory, TidyTable, tidy_directory, tidy_table}

-- ---- fields
blank_is : (v : Value) → same_value v Blank ≡ true → v ≡ Blank
unfolding same_value mark
blank_is Blank e = refl
blank_is (Count n) e = absurd (false≢true e)
blank_is (Rate x) e = absurd (false≢true e)
blank_is (Nan b) e = absurd (false≢true e)
blank_is (Classed k) e = absurd (false≢true e)
blank_is Hidden e = absurd (false≢true e)

field_empty_lem : (f : Field) → field_empty f ≡ true → f ≡ no_field
unfolding field_empty
field_empty_lem f e =
    λ i. record {
      class = same_eq f.class bottom (and-fst (same f.class bottom) (same_value f.value Blank) e) i;
      value = blank_is f.value (and-snd (same f.class bottom) (same_value f.value Blank) e) i;
    }

fields_back : (ks : List Column) (fs : List Field) → all_pairs field_tidy ks fs ≡ true → map packed_field (zip_with unpacked_field ks fs) ≡ fs
unfolding field_tidy packed_field unpacked_field zip_with
fields_back [] [] e = refl
fields_back [] (f ∷ fs) e = absurd (false≢true e)
fields_back (k ∷ ks) [] e = refl
fields_back (k ∷ ks) (f ∷ fs) e =
    let h = and-snd (field_sound 8 f) (k.there || field_empty f) (and-fst (field_tidy k f) (all_pairs field_tidy ks fs) e) in
    ap₂ (λ (x : Field) (r : List Field). x ∷ r)
    (packs_back packed_field k.there f f (λ p. refl) (λ p. sym (field_empty_lem f (other k.there (field_empty f) h p))))
    (fields_back ks fs (and-snd (field_tidy k f) (all_pairs field_tidy ks fs) e))

-- ---- rows
pub row_back : (ks : List Column) (r : Row) → row_tidy ks r ≡ true → packed_row (unpacked_row ks r) ≡ r
unfolding row_tidy packed_row unpacked_row
row_back ks r e =
    λ i. record { exist = r.exist; fields = fields_back ks r.fields (and-snd (class_sound 8 r.exist) (all_pairs field_tidy ks r.fields) e) i }

row_empty_lem : (r : Row) → row_empty r ≡ true → r ≡ no_row
unfolding row_empty
row_empty_lem r e =
    let f = and-fst (same r.exist bottom && all field_empty r.fields) (eqb (length r.fields) 8) e in
    let n = eqb-true (length r.fields) 8 (and-snd (same r.exist bottom && all field_empty r.fields) (eqb (length r.fields) 8) e) in
    λ i. record {
      exist = same_eq r.exist bottom (and-fst (same r.exist bottom) (all field_empty r.fields) f) i;
      fields = (all_one field_empty no_field field_empty_lem r.fields (and-snd (same r.exist bottom) (all field_empty r.fields) f) ∙ ap (λ (j : ℕ). replicate j no_field) n) i;
    }

-- the rows that are there, and then as many empty ones as there were
rows_back : (n m : ℕ) (rs : List Row) → n ≤ m → length rs ≡ m → all row_empty (drop n rs) ≡ true → pad no_row m (take n rs) ≡ rs
unfolding pad
rows_back n m rs h l e =
    let k : length (drop n rs) ≡ m - length (take n rs) = omega (arith, length-drop n rs, length-take n rs) in
    ap (λ (x : List Row). take n rs ++ x) (sym (all_one row_empty no_row row_empty_lem (drop n rs) e ∙ ap (λ (j : ℕ). replicate j no_row) k)) ∙ take-append-drop n rs

-- ---- berths, groups, columns
berth-back : (b : Berth) → berth_tidy b ≡ true → packed_berth (unpacked_berth b) ≡ b
unfolding berth_tidy packed_berth unpacked_berth
berth-back b e =
    let h = and-snd (class_sound 8 b.class) (b.there || same b.class bottom) e in
    packs_back packed_berth b.there b.class b (λ p. λ i. record { there = sym p i; class = b.class })
    (λ p. λ i. record { there = sym p i; class = sym (same_eq b.class bottom (other b.there (same b.class bottom) h p)) i })

group-back : (g : Group) → group_tidy g ≡ true → packed_group (unpacked_group g) ≡ g
unfolding group_tidy packed_group unpacked_group
group-back g e =
    let h = and-snd (class_sound 8 g.exist) (g.there || same g.exist bottom) e in
    packs_back packed_group g.there g.exist g (λ p. λ i. record { there = sym p i; exist = g.exist })
    (λ p. λ i. record { there = sym p i; exist = sym (same_eq g.exist bottom (other g.there (same g.exist bottom) h p)) i })

counts_is : (k : Kind) → eqb (kind_letter k) (code "N") ≡ true → k ≡ Counts
unfolding kind_letter
counts_is Counts e = refl
counts_is Rates e = absurd (false≢true e)
counts_is Classes e = absurd (false≢true e)

column_empty_lem : (k : Column) → column_empty k ≡ true → k.there ≡ false → no_column ≡ k
unfolding column_empty
column_empty_lem k e p =
    let h = and-fst (eqb k.group 0 && eqb (kind_letter k.kind) (code "N")) (field_empty k.default) e in
    sym
    (λ i. record {
      there = p i;
      group = eqb-true k.group 0 (and-fst (eqb k.group 0) (eqb (kind_letter k.kind) (code "N")) h) i;
      kind = counts_is k.kind (and-snd (eqb k.group 0) (eqb (kind_letter k.kind) (code "N")) h) i;
      default = field_empty_lem k.default (and-snd (eqb k.group 0 && eqb (kind_letter k.kind) (code "N")) (field_empty k.default) e) i;
    })

column-back : (k : Column) → column_tidy k ≡ true → packed_column (unpacked_column k) ≡ k
unfolding column_tidy packed_column unpacked_column column_of
column-back k e =
    let h = and-snd (field_sound 8 k.default) (k.there || column_empty k) e in
    packs_back packed_column k.there (column_of k) k
    (λ p. λ i. record { there = sym p i; group = k.group; kind = k.kind; default = k.default })
    (λ p. column_empty_lem k (other k.there (column_empty k) h p) p)

-- ---- tables
table_empty_lem : (t : Table) → TidyTable t → t.there ≡ false → no_table ≡ t
unfolding table_empty packed_berth unpacked_berth packed_group unpacked_group packed_column unpacked_column
table_empty_lem t y p =
    let f = facts (table_empty t) (other t.there (conj (table_empty t)) y.absent p) in
    let z : t.count ≡ 0 = eqb-true t.count 0 f.1.1.1.1.1.0 in
    let none_left : all row_empty t.rows ≡ true = ap (λ (n : ℕ). all row_empty (drop n t.rows)) (sym z) ∙ y.rest in
    sym
    (λ i. record {
      there = p i;
      class = same_eq t.class bottom f.0 i;
      max = same_eq t.max bottom f.1.0 i;
      berths =
          all_both berth_tidy berth_away no_berth 4 (λ b e a. away_is packed_berth b.there b.class b (berth-back b e) a) t.berths y.berths f.1.1.0 y.long.berths4 i;
      groups =
          all_both group_tidy group_away no_group 4 (λ g e a. away_is packed_group g.there g.exist g (group-back g e) a) t.groups y.groups f.1.1.1.0 y.long.groups4 i;
      columns =
          all_both column_tidy column_away no_column 8 (λ k e a. away_is packed_column k.there (column_of k) k (column-back k e) a) t.columns y.columns f.1.1.1.1.0
          y.long.columns8 i;
      count = z i;
      rows = (all_one row_empty no_row row_empty_lem t.rows none_left ∙ ap (λ (j : ℕ). replicate j no_row) y.long.rows32) i;
    })

pub table_full : (t : Table) → TidyTable t → t.there ≡ true → packed_table (Some (table_of t)) ≡ t
unfolding packed_table table_of rows_in
table_full t y p =
    let l = y.long.rows32 in
    let h = y.count in
    let rs = all_back (unpacked_row t.columns) packed_row (row_tidy t.columns) (row_back t.columns) (take t.count t.rows) y.rows in
    let n : length (take t.count t.rows) ≡ t.count = omega (arith, length-take t.count t.rows) in
    λ i. record {
      there = sym p i;
      class = t.class;
      max = t.max;
      berths = all_back unpacked_berth packed_berth berth_tidy berth-back t.berths y.berths i;
      groups = all_back unpacked_group packed_group group_tidy group-back t.groups y.groups i;
      columns = all_back unpacked_column packed_column column_tidy column-back t.columns y.columns i;
      count = (length-map (take t.count t.rows) (unpacked_row t.columns) ∙ n) i;
      rows = (ap (pad no_row 32) rs ∙ rows_back t.count 32 t.rows h l y.rest) i;
    }

pub table-back : (t : Table) → table_tidy t ≡ true → packed_table (unpacked_table t) ≡ t
unfolding unpacked_table packed_table
table-back t e = packs_back packed_table t.there (table_of t) t (table_full t (tidy_table t e)) (table_empty_lem t (tidy_table t e))

-- ---- directories and the store
directory_full : (d : Directory) → TidyDirectory d → d.there ≡ true → packed_directory (Some (directory_of d)) ≡ d
unfolding packed_directory directory_of
directory_full d y p =
    λ i. record { there = sym p i; exist = d.exist; class = d.class; tables = all_back unpacked_table packed_table table_tidy table-back d.tables y.tables i }

directory_empty_lem : (d : Directory) → TidyDirectory d → d.there ≡ false → no_directory ≡ d
unfolding directory_empty packed_table unpacked_table
directory_empty_lem d y p =
    let f = facts (directory_empty d) (other d.there (conj (directory_empty d)) y.absent p) in
    sym
    (λ i. record {
      there = p i;
      exist = same_eq d.exist bottom f.0 i;
      class = same_eq d.class bottom f.1.0 i;
      tables = all_both table_tidy table_away no_table 2 (λ t e a. away_is packed_table t.there (table_of t) t (table-back t e) a) d.tables y.tables f.1.1.0 y.tables2 i;
    })

pub directory-back : (d : Directory) → directory_tidy d ≡ true → packed_directory (unpacked_directory d) ≡ d
unfolding unpacked_directory packed_directory
directory-back d e =
    packs_back packed_directory d.there (directory_of d) d (directory_full d (tidy_directory d e)) (directory_empty_lem d (tidy_directory d e))

pub packed-unpacked : (s : Store) → canonical s ≡ true → packed (unpacked s) ≡ s
unfolding canonical packed unpacked
packed-unpacked s e =
    λ i. record { dirs = all_back unpacked_directory packed_directory directory_tidy directory-back s.dirs (and-fst (all directory_tidy s.dirs) (eqb (length s.dirs) 4) e) i }
