-- Placing in a store that is cut to the rows that the structs keep.
-- Assumes nothing.
use mathlib.Core.Path.{◌∙◌, ◌≡◌, ap, refl, subst, sym}
use native.Mathlib.Omega.{arith}
use Rattle.std.specs.Prelude.{Bool, true, false, ◌&&◌, List, [], ◌∷◌, ◌++◌, map, ℕ, ◌+◌, ◌<◌, ◌≤◌, zero, suc, length, take, drop, set, get_or, ltb, Option, None, Some}
use Rattle.std.specs.List.{slice_get}
use Rattle.std.proofs.Common.{⊎_elim}
use Rattle.std.proofs.lemmas.Bool.{true≢false}
use Rattle.std.proofs.lemmas.Bool.Decides.{leb_tells}
use Rattle.std.proofs.lemmas.List.{length-append, length-map, length-take-le, take_all, take-append-le}
use Rattle.model.specs.declared.Class.{Class}
use Rattle.model.specs.declared.Field.{Field}
use Rattle.model.specs.Places.{Places, all, and_then, at, map_o}
use Rattle.model.specs.Parts as model
use Rattle.model.specs.Records as records
use Rattle.model.specs.Records.{Part, TablePart, berth, column, directory, group, row, fresh, inside, no_rows, place, place_at, place_inside, place_part, place_table, provided, table, vacant}
use Rattle.model.proofs.OptionLaws.{map-some, map-twice}
use Rattle.store.specs.declared.Directory.{Directory}
use Rattle.store.specs.declared.Store.{Store}
use Rattle.store.specs.declared.Table.{Table}
use Rattle.store.specs.Canonical.{table_away}
use Rattle.store.specs.Packed.{packed, packed_directory, packed_field, packed_table}
use Rattle.store.specs.Numbered.{past_directory, past_table}
use Rattle.placing.specs.Cut.{a_row, cut, cut_directory, cut_table, is_row}
use Rattle.placing.specs.Rows.{row_set, with_row}
use Rattle.placing.specs.Stores.{directory_away, in_table, is_last, stands_last}
use Rattle.placing.proofs.PlaceLaws.{all_tests, at-get, in_directory, map_provided, place_packed}
use Rattle.placing.proofs.SpreadLaws.{row_placed, spread_packed}
use Rattle.placing.proofs.TableLaws.{map_both}

-- ---- a table
pub no_rows-cut : (l : List model.Row) → no_rows (take 32 l) ≡ no_rows l
no_rows-cut [] = refl
no_rows-cut (r ∷ l) = refl

pub berth_cut : (x : ℕ × Class) (t : model.Table) → place_inside (berth x) (cut_table t) ≡ map_o cut_table (place_inside (berth x) t)
unfolding place_inside
berth_cut x t = rw (no_rows-cut, map_provided, map-twice) refl

pub group_cut : (x : ℕ × Class) (t : model.Table) → place_inside (group x) (cut_table t) ≡ map_o cut_table (place_inside (group x) t)
unfolding place_inside
group_cut x t = rw (no_rows-cut, map_provided, map-twice) refl

pub column_cut : (x : ℕ × model.Column) (t : model.Table) → place_inside (column x) (cut_table t) ≡ map_o cut_table (place_inside (column x) t)
unfolding place_inside
column_cut x t = rw (no_rows-cut, map_provided, map-twice) refl

-- ---- a row
-- one more element of a list that is cut already
take_short : {A : Type 0} (n : ℕ) (l : List A) (x : A) → length l < n → take n (l ++ (x ∷ [])) ≡ l ++ (x ∷ [])
take_short n l x h = take_all n (l ++ (x ∷ [])) (rw (length-append l (x ∷ [])) (omega arith))

row_below : (k : Class) (fs : List Field) (t : model.Table) → length t.rows < 32
    → map_o (λ (u : model.Table). packed_table (Some (cut_table u))) (place_inside (row k fs) t) ≡ row_set k fs (packed_table (Some (cut_table t)))
unfolding place_inside
row_below k fs t h =
    map_both _ _ (λ (u : model.Table). packed_table (Some u)) _
    (λ (l : Places Field).
    let r : model.Row = record { exist = k; fields = l } in
    ap (λ x. packed_table (Some (record t { rows = x }))) (take_short 32 t.rows r h))
    (records.spread t.columns fs)
    ∙ row_placed k fs t h
    ∙ ap (λ l. row_set k fs (packed_table (Some (record t { rows = l })))) (sym (take_all 32 t.rows (omega arith)))

row_full : (k : Class) (fs : List Field) (t : model.Table) → 32 ≤ length t.rows
    → map_o (λ (u : model.Table). packed_table (Some (cut_table u))) (place_inside (row k fs) t) ≡ row_set k fs (packed_table (Some (cut_table t)))
unfolding place_inside packed_table row_set with_row
row_full k fs t h =
    rw (spread_packed t.columns fs)
    (map_both _ _ _ (map packed_field)
    (λ l. rw (take-append-le 32 t.rows (record { exist = k; fields = l } ∷ []) h, length-take-le 32 t.rows h) refl)
    (records.spread t.columns fs))

pub row_cut : (k : Class) (fs : List Field) (t : model.Table)
    → map_o (λ (u : model.Table). packed_table (Some (cut_table u))) (place_inside (row k fs) t) ≡ row_set k fs (packed_table (Some (cut_table t)))
row_cut k fs t = ⊎_elim (λ e. row_full k fs t e.1) (λ e. row_below k fs t e.1) (leb_tells 32 (length t.rows))

-- ---- places under a map
vacant-map : {A B : Type 0} (c : A → B) (l : Places A) → vacant (map (map_o c) l) ≡ vacant l
vacant-map c [] = refl
vacant-map c (None ∷ l) = vacant-map c l
vacant-map c (Some a ∷ l) = refl

pub place_map : {A B R Q : Type 0} (c : A → B) (f : R → Option A → Option (Option A)) (g : Q → Option B → Option (Option B)) (n : ℕ) (r : R) (q : Q) (l : Places A)
    → ((o : Option A) → g q (map_o c o) ≡ map_o (map_o c) (f r o)) → place_at g n q (map (map_o c) l) ≡ map_o (map (map_o c)) (place_at f n r l)
place_map c f g n r q [] h = refl
place_map c f g zero r q (o ∷ l) h = rw (vacant-map c l, h o, map_provided) (ap (provided (vacant l)) (map_both _ (map_o c) _ _ (λ a. refl) (f r o)))
place_map c f g (suc n) r q (o ∷ l) h = rw (place_map c f g n r q l h) (map_both _ (map (map_o c)) _ _ (λ a. refl) (place_at f n r l))

-- ---- a part that is no row, in a store
pub inside_cut : (p : TablePart) (t : model.Table) → a_row p ≡ false → place_inside p (cut_table t) ≡ map_o cut_table (place_inside p t)
unfolding place_inside
inside_cut (table k m) t e = refl
inside_cut (berth x) t e = berth_cut x t
inside_cut (group x) t e = group_cut x t
inside_cut (column x) t e = column_cut x t
inside_cut (row k fs) t e = absurd (true≢false e)

table_cut : (p : TablePart) (o : Option model.Table) → a_row p ≡ false → place_table p (map_o cut_table o) ≡ map_o (map_o cut_table) (place_table p o)
unfolding place_table
table_cut (table k m) None e = refl
table_cut (berth x) None e = refl
table_cut (group x) None e = refl
table_cut (column x) None e = refl
table_cut (row k fs) None e = refl
table_cut (table k m) (Some t) e = rw (inside_cut (table k m) t e) (map_both Some cut_table _ _ (λ u. refl) (place_inside (table k m) t))
table_cut (berth x) (Some t) e = rw (inside_cut (berth x) t e) (map_both Some cut_table _ _ (λ u. refl) (place_inside (berth x) t))
table_cut (group x) (Some t) e = rw (inside_cut (group x) t e) (map_both Some cut_table _ _ (λ u. refl) (place_inside (group x) t))
table_cut (column x) (Some t) e = rw (inside_cut (column x) t e) (map_both Some cut_table _ _ (λ u. refl) (place_inside (column x) t))
table_cut (row k fs) (Some t) e = absurd (true≢false e)

part_cut : (p : Part) (o : Option model.Directory) → is_row p ≡ false → place_part p (map_o cut_directory o) ≡ map_o (map_o cut_directory) (place_part p o)
unfolding place_part
part_cut (directory x k) None e = refl
part_cut (directory x k) (Some d) e = refl
part_cut (inside x) None e = refl
part_cut (inside x) (Some d) e = rw (place_map cut_table place_table place_table x.0 x.1 x.1 d.tables (λ o. table_cut x.1 o e)) (map_both _ (map (map_o cut_table)) _ _ (λ l. refl) (place_at place_table x.0 x.1 d.tables))

pub place_cut : (d : ℕ) (p : Part) (s : model.Store) → is_row p ≡ false → place (d, p) (cut s) ≡ map_o cut (place (d, p) s)
unfolding place cut
place_cut d p s e = place_map cut_directory place_part place_part d p p s (λ o. part_cut p o e)

-- ---- a row, in a store
map_alike : {A B : Type 0} (f g : A → B) → ((a : A) → f a ≡ g a) → (o : Option A) → map_o f o ≡ map_o g o
map_alike f g h None = refl
map_alike f g h (Some a) = ap Some (h a)

map_list_twice : {A B C : Type 0} (g : B → C) (f : A → B) (l : List A) → map g (map f l) ≡ map (λ (a : A). g (f a)) l
map_list_twice g f [] = refl
map_list_twice g f (a ∷ l) = ap (λ (m : List _). g (f a) ∷ m) (map_list_twice g f l)

-- a step of a place, in the structs of what is left of the parts
place_packed_map : {A C R B : Type 0} (c : A → C) (f : R → Option A → Option (Option A)) (pack : Option C → B) (away : B → Bool) (past : B) (step : B → Option B) (n : ℕ) (r : R) (l : Places A)
    → away (pack None) ≡ true → ((x : C) → away (pack (Some x)) ≡ false)
    → ((o : Option A) → slice_get l n ≡ Some o → map_o (λ (x : Option A). pack (map_o c x)) (f r o) ≡ step (pack (map_o c o)))
    → map_o (λ (x : Places A). map pack (map (map_o c) x)) (place_at f n r l)
    ≡ provided (ltb n (length l) && all away (drop (n + 1) (map pack (map (map_o c) l)))) (map_o (λ (x : B). set (map pack (map (map_o c) l)) n x) (step (get_or (map pack (map (map_o c) l)) n past)))
place_packed_map {A} c f pack away past step n r l e h k =
    map_alike _ _ (λ x. map_list_twice pack (map_o c) x) (place_at f n r l)
    ∙ rw (map_list_twice pack (map_o c) l) (place_packed f (λ (x : Option A). pack (map_o c x)) away past step n r l e (λ a. h (c a)) k)

row_in_table : (k : Class) (fs : List Field) (o : Option model.Table)
    → map_o (λ (x : Option model.Table). packed_table (map_o cut_table x)) (place_table (row k fs) o)
    ≡ provided (packed_table (map_o cut_table o)).there (row_set k fs (packed_table (map_o cut_table o)))
unfolding place_table packed_table
row_in_table k fs None = refl
row_in_table k fs (Some u) = map-twice _ Some (place_inside (row k fs) u) ∙ row_cut k fs u

row_in_directory : (t : ℕ) (k : Class) (fs : List Field) (o : Option model.Directory) → ((x : model.Directory) → o ≡ Some x → length x.tables ≡ 2)
    → map_o (λ (x : Option model.Directory). packed_directory (map_o cut_directory x)) (place_part (inside (t, row k fs)) o) ≡ in_directory t (row_set k fs) (packed_directory (map_o cut_directory o))
unfolding place_part packed_directory packed_table
row_in_directory t k fs None e = refl
row_in_directory t k fs (Some x) e =
    let f : List Table → Directory = λ l. record { there = true; exist = x.exist; class = x.class; tables = l } in
    let all_tables : List Table = map packed_table (map (map_o cut_table) x.tables) in
    rw (
      map-twice,
      ← map-twice f (λ (l : Places model.Table). map packed_table (map (map_o cut_table) l)) (place_at place_table t (row k fs) x.tables),
      place_packed_map cut_table place_table packed_table table_away past_table (λ (q : Table). provided q.there (row_set k fs q)) t (row k fs) x.tables refl (λ a. refl) (λ o g. row_in_table k fs o),
      e x refl,
      map_provided f _ (map_o (λ (q : Table). set all_tables t q) _),
      map-twice,
    ) refl

-- the store's structs after a row, where its directory and its table are the last; a table of 32 rows is left as it was
pub row_in_cut_store : (d t : ℕ) (s : model.Store) → length s ≡ 4 → ((x : model.Directory) → at d s ≡ Some x → length x.tables ≡ 2)
    → (k : Class) (fs : List Field) → map_o (λ (m : model.Store). packed (cut m)) (place (d, inside (t, row k fs)) s) ≡ in_table d t (row_set k fs) (packed (cut s))
unfolding place cut packed packed_directory in_table is_last stands_last
row_in_cut_store d t s e w k fs =
    let f : List Directory → Store = λ l. record { dirs = l } in
    let dirs : List Directory = map packed_directory (map (map_o cut_directory) s) in
    let x : Directory = get_or dirs d past_directory in
    let q : Table = get_or x.tables t past_table in
    rw (
      ← map-twice f (λ (m : Places model.Directory). map packed_directory (map (map_o cut_directory) m)) (place_at place_part d (inside (t, row k fs)) s),
      place_packed_map cut_directory place_part packed_directory directory_away past_directory (in_directory t (row_set k fs)) d (inside (t, row k fs)) s refl (λ a. refl)
          (λ o g. row_in_directory t k fs o (λ x i. w x (at-get d s o g ∙ i))),
      e,
      map_provided f _ (map_o (λ (y : Directory). set dirs d y) _),
      map-twice,
    )
    (all_tests (λ (y : Directory). f (set dirs d y)) (λ (z : Table). record x { tables = set x.tables t z }) (ltb d 4) (all directory_away (drop (d + 1) dirs)) x.there (ltb t 2) (all table_away (drop (t + 1) x.tables)) q.there (row_set k fs q))

-- ---- what stands in a store that is cut
length-cut : (s : model.Store) → length (cut s) ≡ length s
unfolding cut
length-cut s = length-map s (map_o cut_directory)

at_map : {A B : Type 0} (c : A → B) (n : ℕ) (l : Places A) → at n (map (map_o c) l) ≡ map_o c (at n l)
at_map c n [] = refl
at_map c zero (o ∷ l) = refl
at_map c (suc n) (o ∷ l) = at_map c n l

table_at-cut : (d t : ℕ) (s : model.Store) → model.table_at d t (cut s) ≡ map_o cut_table (model.table_at d t s)
unfolding cut model.table_at
table_at-cut d t s = rw (at_map cut_directory d s) (go (at d s))
  where
    go : (o : Option model.Directory) → and_then (map_o cut_directory o) (λ (x : model.Directory). at t x.tables) ≡ map_o cut_table (and_then o (λ (x : model.Directory). at t x.tables))
    go None = refl
    go (Some x) = at_map cut_table t x.tables

-- d, t: the numbers of a directory and of a table in it; s has its four directories, and that one its two tables
pub four_directories-cut : (s : model.Store) → length s ≡ 4 → length (cut s) ≡ 4
four_directories-cut s e = length-cut s ∙ e

pub two_tables-cut : (d : ℕ) (s : model.Store) → ((x : model.Directory) → at d s ≡ Some x → length x.tables ≡ 2) → (x : model.Directory) → at d (cut s) ≡ Some x → length x.tables ≡ 2
unfolding cut
two_tables-cut d s w x e =
    let y = map-some cut_directory (at d s) x (sym (at_map cut_directory d s) ∙ e) in
    ap (λ (z : model.Directory). length z.tables) (sym y.2) ∙ length-map y.0.tables (map_o cut_table) ∙ w y.0 y.1

-- what holds of a table's parts other than its rows
pub table_holds-cut : (P : model.Table → Type 0) → ((u : model.Table) → P u → P (cut_table u)) → (d t : ℕ) (s : model.Store)
    → ((u : model.Table) → model.table_at d t s ≡ Some u → P u) → (u : model.Table) → model.table_at d t (cut s) ≡ Some u → P u
table_holds-cut P c d t s h u e =
    let y = map-some cut_table (model.table_at d t s) u (sym (table_at-cut d t s) ∙ e) in
    subst P y.2 (c y.0 (h y.0 y.1))
