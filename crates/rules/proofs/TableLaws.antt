-- Tables, directories and the store: the tests of their parts, and the rules of what they stand for.
-- Assumes nothing.
use mathlib.Core.Path.{◌∙◌, ◌≡◌, ap, ap₂, refl, sym}
use mathlib.Core.Bool.{Bool, ◌&&◌, ◌||◌, not}
use mathlib.Core.List.{List, [], ◌∷◌, map}
use Rattle.std.specs.Prelude.{Option}
use Prim.Native.Nat.{ℕ}
use lib.Dec.{eqb}
use lib.ListN.{length, length-map}
use borrow.Author.Tests.{eq-eqb}
use Rattle.model.specs.declared.Class.{Class}
use Rattle.model.specs.Places.{all, all_in, conj, twice}
use Rattle.model.specs.Classes.{dominates}
use Rattle.model.specs.Rules.{berth_ok, column_ok, directory_ok, directory_plain, plain, row_ok, row_plain, ruled, same_berth, table_ok, table_plain, table_tests}
use Rattle.model.proofs.Every.{of_facts}
use Rattle.lists.proofs.Chains.{chain-conj, chain-sure}
use Rattle.std.proofs.lemmas.List.Folds.{list_all-map}
use Rattle.store.specs.declared.Berth.{Berth}
use Rattle.store.specs.declared.Column.{Column}
use Rattle.store.specs.declared.Table.{Table}
use Rattle.store.specs.declared.Directory.{Directory}
use Rattle.store.specs.declared.Store.{Store}
use Rattle.store.specs.Packed.{column_of, directory_of, rows_in, table_of, unpacked, unpacked_berth, unpacked_column, unpacked_directory, unpacked_group, unpacked_row, unpacked_table}
use Rattle.rowrules.specs.Kept.{room_in, row_kept, row_shown}
use Rattle.rowrules.proofs.PartLaws.{all-kept, any_map}
use Rattle.rowrules.proofs.RowLaws.{room-same}
use Rattle.rules.specs.Kept.{alike, berth_kept, column_kept, directory_kept, directory_shown, table_kept, table_shown}

-- as many places as the array is long
places-sure : {A B : Type 0} (n : ℕ) (un : B → Option A) (l : List B) (x : Bool) → length l ≡ n → x ≡ (eqb (length (map un l)) n && x)
places-sure n un l x h = sym (ap (λ (b : Bool). b && x) (eq-eqb (length (map un l)) n (length-map l un ∙ h)))

-- two alike among the berths, and among what they stand for
twice_map : (l : List Berth) → twice alike l ≡ twice same_berth (map unpacked_berth l)
twice_map [] = refl
twice_map (b ∷ l) = ap₂ (λ (x y : Bool). x || y) (any_map (same_berth (unpacked_berth b)) unpacked_berth l) (twice_map l)

-- ---- a table
-- what the code tests of it
abbrev pub tests : Table → List Bool
tests t =
    dominates t.max t.class
    ∷ all (berth_kept t.class t.max) t.berths
    ∷ not (twice alike t.berths)
    ∷ all (column_kept t.groups) t.columns
    ∷ all (row_kept t.berths t.columns) (rows_in t)
    ∷ all_in (room_in (rows_in t)) (map unpacked_berth t.berths)
    ∷ []

-- and what its types say
abbrev places : Table → List Bool
places t =
    eqb (length (map unpacked_berth t.berths)) 4
    ∷ eqb (length (map unpacked_group t.groups)) 4
    ∷ eqb (length (map unpacked_column t.columns)) 8
    ∷ []

-- the tests of the structs are the rules of the table, as the lengths are those of its types
pub table_ruled : (t : Table) → length t.berths ≡ 4 → length t.groups ≡ 4 → length t.columns ≡ 8 → table_ok (table_of t) ≡ conj (tests t)
unfolding table_ok table_tests table_of unpacked_berth unpacked_column
table_ruled t h4 g4 k8 =
    let us = map unpacked_berth t.berths in
    let gs = map unpacked_group t.groups in
    let ks = map unpacked_column t.columns in
    let berths = all-kept (λ (b : Berth). b.there) (λ (b : Berth). b.class) (berth_ok t.class t.max) t.berths in
    let columns = all-kept (λ (k : Column). k.there) column_of (column_ok gs) t.columns in
    let rows = list_all-map (row_ok us ks) (unpacked_row t.columns) (rows_in t) in
    let rooms = ap (λ (p : Class → Bool). all_in p us) (room-same t.columns (rows_in t)) in
    sym
    (sym (chain-conj (tests t))
    ∙ chain-sure (tests t) (places t)
    (of_facts (places t) (
      eq-eqb (length us) 4 (length-map t.berths unpacked_berth ∙ h4),
      (
        eq-eqb (length gs) 4 (length-map t.groups unpacked_group ∙ g4),
        (eq-eqb (length ks) 8 (length-map t.columns unpacked_column ∙ k8), tt),
      ),
    ))
    ∙ λ i. conj
    (dominates t.max t.class
    ∷ berths i
    ∷ not (twice_map t.berths i)
    ∷ columns i
    ∷ sym rows i
    ∷ rooms i
    ∷ places t))

-- no field is hidden in its rows
pub table_shown_is : (t : Table) → table_plain (table_of t) ≡ all (row_shown t.columns) (rows_in t)
unfolding table_plain table_of
table_shown_is t = list_all-map row_plain (unpacked_row t.columns) (rows_in t)

-- ---- a directory
-- both its tables keep the rules
pub directory_ruled : (d : Directory) → length d.tables ≡ 2 → directory_ok (directory_of d) ≡ all table_kept d.tables
unfolding directory_ok directory_of unpacked_table
directory_ruled d h =
    sym
    (all-kept (λ (t : Table). t.there) table_of table_ok d.tables
    ∙ places-sure 2 unpacked_table d.tables (all_in table_ok (map unpacked_table d.tables)) h)

-- no field is hidden in its tables
pub directory_shown_is : (d : Directory) → directory_plain (directory_of d) ≡ all table_shown d.tables
unfolding directory_plain directory_of unpacked_table
directory_shown_is d = sym (all-kept (λ (t : Table). t.there) table_of table_plain d.tables)

-- ---- the store
-- all four directories keep the rules
pub store_ruled : (s : Store) → length s.dirs ≡ 4 → ruled (unpacked s) ≡ all directory_kept s.dirs
unfolding ruled unpacked unpacked_directory
store_ruled s h =
    sym
    (all-kept (λ (d : Directory). d.there) directory_of directory_ok s.dirs
    ∙ places-sure 4 unpacked_directory s.dirs (all_in directory_ok (map unpacked_directory s.dirs)) h)

-- no field is hidden in its directories
pub store_shown : (s : Store) → plain (unpacked s) ≡ all directory_shown s.dirs
unfolding plain unpacked unpacked_directory
store_shown s = sym (all-kept (λ (d : Directory). d.there) directory_of directory_plain s.dirs)
