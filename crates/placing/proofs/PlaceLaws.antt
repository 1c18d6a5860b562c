-- A part set at its place in a store of structs is the part placed in the model's store.
-- Assumes nothing.
use mathlib.Core.Path.{◌∙◌, ◌≡◌, refl}
use lib.Dec.{leb-suc-zero}
use Rattle.std.specs.Prelude.{Bool, true, false, cond, ◌&&◌, List, [], ◌∷◌, map, ℕ, ◌+◌, zero, suc, length, set, drop, get_or, ltb, Option, None, Some}
use Rattle.std.specs.List.{slice_get}
use Rattle.std.proofs.Common.{add-one}
use Rattle.std.proofs.lemmas.List.{drop-map, map-set}
use Rattle.lists.specs.Pad.{pad}
use Rattle.model.specs.declared.Class.{Class}
use Rattle.model.specs.Places.{Places, all, and_then, at, map_o, nones, when}
use Rattle.model.specs.Parts as model
use Rattle.model.specs.Records.{Part, TablePart, berth, column, directory, group, row, fresh, inside, place, place_at, place_inside, place_part, place_table, provided, table, vacant}
use Rattle.model.proofs.OptionLaws.{map-twice, nothing_is}
use Rattle.store.specs.declared.Directory.{Directory}
use Rattle.store.specs.declared.Store.{Store}
use Rattle.store.specs.declared.Table.{Table}
use Rattle.store.specs.Canonical.{table_away}
use Rattle.store.specs.Packed.{packed, packed_berth, packed_column, packed_directory, packed_group, packed_table}
use Rattle.store.specs.Numbered.{past_directory, past_table}
use Rattle.placing.specs.Stores.{bare_table, directory_away, directory_fits, directory_of, directory_set, in_table, is_last, stands_last, table_fits, table_may, table_of, table_set}
use Rattle.placing.proofs.TableLaws.{all_away, below_more, below_next, place_fresh}

-- ---- numbers
drop_next : {A : Type 0} (n : ℕ) (a : A) (l : List A) → drop (suc n + 1) (a ∷ l) ≡ drop (n + 1) l
drop_next n a l = rw (add-one (suc n), add-one n)

-- ---- what may be absent
pub map_when : {A B : Type 0} (f : A → B) (p : Bool) (a : A) → map_o f (when p a) ≡ when p (f a)
map_when f true a = refl
map_when f false a = refl

pub map_provided : {A B : Type 0} (f : A → B) (p : Bool) (o : Option A) → map_o f (provided p o) ≡ provided p (map_o f o)
map_provided f true o = refl
map_provided f false o = refl

-- a step under two tests, of what comes where a third passes
pub three_tests : {A B : Type 0} (f : A → B) (p q v : Bool) (a : A) → provided (p && q) (map_o f (when v a)) ≡ when (p && (q && v)) (f a)
three_tests f true true true a = refl
three_tests f true true false a = refl
three_tests f true false v a = refl
three_tests f false q v a = refl

-- ---- places
-- a part goes to that at its number, where all later places are empty
pub place_number : {A R : Type 0} (f : R → Option A → Option (Option A)) (n : ℕ) (r : R) (l : Places A)
    → place_at f n r l ≡ and_then (slice_get l n) (λ (o : Option A). provided (vacant (drop (n + 1) l)) (map_o (λ (x : Option A). set l n x) (f r o)))
place_number f zero r [] = refl
place_number f (suc n) r [] = refl
place_number f zero r (o ∷ l) = refl
place_number {A} f (suc n) r (o ∷ l) = rw (drop_next n o l, place_number f n r l) (go (slice_get l n) (vacant (drop (n + 1) l)))
  where
    go : (q : Option (Option A)) (p : Bool)
        → map_o (λ (x : Places A). o ∷ x) (and_then q (λ (a : Option A). provided p (map_o (λ (x : Option A). set l n x) (f r a))))
        ≡ and_then q (λ (a : Option A). provided p (map_o (λ (x : Option A). o ∷ set l n x) (f r a)))
    go None p = refl
    go (Some a) p = rw (map_provided (λ (x : Places A). o ∷ x) p (map_o (λ (x : Option A). set l n x) (f r a)), map-twice (λ (x : Places A). o ∷ x) (λ (x : Option A). set l n x) (f r a))

-- two steps that agree place alike
pub place_same : {A R Q : Type 0} (f : R → Option A → Option (Option A)) (g : Q → Option A → Option (Option A)) (n : ℕ) (r : R) (q : Q) (l : Places A)
    → ((o : Option A) → f r o ≡ g q o) → place_at f n r l ≡ place_at g n q l
place_same f g n r q [] h = refl
place_same f g zero r q (o ∷ l) h = rw (h o)
place_same f g (suc n) r q (o ∷ l) h = rw (place_same f g n r q l h)

-- a step of a place, in structs
pub place_packed : {A R B : Type 0} (f : R → Option A → Option (Option A)) (pack : Option A → B) (away : B → Bool) (past : B) (step : B → Option B) (n : ℕ) (r : R) (l : Places A)
    → away (pack None) ≡ true → ((a : A) → away (pack (Some a)) ≡ false)
    → ((o : Option A) → slice_get l n ≡ Some o → map_o pack (f r o) ≡ step (pack o))
    → map_o (map pack) (place_at f n r l)
    ≡ provided (ltb n (length l) && all away (drop (n + 1) (map pack l))) (map_o (λ (x : B). set (map pack l) n x) (step (get_or (map pack l) n past)))
place_packed f pack away past step zero r [] e h k = refl
place_packed f pack away past step (suc n) r [] e h k = rw (leb-suc-zero (suc n))
place_packed {A} {R} {B} f pack away past step zero r (o ∷ l) e h k =
    rw (below_more, all_away pack away e h l, ← k o refl) (go (vacant l) (f r o))
  where
    go : (p : Bool) (q : Option (Option A)) → map_o (map pack) (provided p (map_o (λ (x : Option A). x ∷ l) q)) ≡ provided p (map_o (λ (x : B). x ∷ map pack l) (map_o pack q))
    go true None = refl
    go true (Some a) = refl
    go false q = refl
place_packed {A} {R} {B} f pack away past step (suc n) r (o ∷ l) e h k =
    rw (below_next, drop_next n (pack o) (map pack l), map-twice (map pack) (λ (x : Places A). o ∷ x) (place_at f n r l), ← map-twice (λ (x : List B). pack o ∷ x) (map pack) (place_at f n r l), place_packed f pack away past step n r l e h k)
    (go (ltb n (length l) && all away (drop (n + 1) (map pack l))) (step (get_or (map pack l) n past)))
  where
    go : (p : Bool) (q : Option B) → map_o (λ (x : List B). pack o ∷ x) (provided p (map_o (λ (x : B). set (map pack l) n x) q)) ≡ provided p (map_o (λ (x : B). pack o ∷ set (map pack l) n x) q)
    go true None = refl
    go true (Some a) = refl
    go false q = refl

pub tables-away : (l : Places model.Table) → all table_away (map packed_table l) ≡ vacant l
unfolding packed_table
tables-away l = all_away packed_table table_away refl (λ a. refl) l

pub directories-away : (l : Places model.Directory) → all directory_away (map packed_directory l) ≡ vacant l
unfolding packed_directory
directories-away l = all_away packed_directory directory_away refl (λ a. refl) l

-- what is read at a number stands at it
pub at-get : {A : Type 0} (n : ℕ) (l : Places A) (o : Option A) → slice_get l n ≡ Some o → at n l ≡ o
at-get zero [] o e = nothing_is e
at-get (suc n) [] o e = nothing_is e
at-get zero (a ∷ l) o e = cc
at-get (suc n) (a ∷ l) o e = at-get n l o e

-- ---- a directory
place_directory : (x k : Class) (o : Option model.Directory) → place_part (directory x k) o ≡ fresh (record { exist = x; class = k; tables = None ∷ None ∷ [] }) o
unfolding place_part
place_directory x k None = refl
place_directory x k (Some d) = refl

pub directory_placed : (d : ℕ) (x k : Class) (s : model.Store) → length s ≡ 4 → map_o packed (place (d, directory x k) s) ≡ directory_set d x k (packed s)
unfolding place packed packed_directory packed_table directory_set directory_fits
directory_placed d x k s e =
    let m : model.Directory = record { exist = x; class = k; tables = None ∷ None ∷ [] } in
    rw (place_same place_part fresh d (directory x k) m s (place_directory x k), place_fresh d m s, e, map_when, drop-map, directories-away, ← map-set packed_directory s d (Some m)) refl

-- ---- a part of a directory
pub placed_in_store : (d : ℕ) (p : Part) (s : model.Store) (step : Directory → Option Directory) → length s ≡ 4
    → ((o : Option model.Directory) → slice_get s d ≡ Some o → map_o packed_directory (place_part p o) ≡ step (packed_directory o))
    → map_o packed (place (d, p) s)
    ≡ provided (ltb d 4 && all directory_away (drop (d + 1) (packed s).dirs)) (map_o (λ (q : Directory). record { dirs = set (packed s).dirs d q }) (step (directory_of d (packed s))))
unfolding place packed packed_directory
placed_in_store d p s step e h =
    let f : List Directory → Store = λ l. record { dirs = l } in
    rw (
      ← map-twice f (map packed_directory) (place_at place_part d p s),
      place_packed place_part packed_directory directory_away past_directory step d p s refl (λ a. refl) h,
      e,
      map_provided,
      map-twice,
    ) refl

-- ---- a table
abbrev model_table : Class → Class → model.Table
model_table k m = record { class = k; max = m; berths = nones 4; groups = nones 4; columns = nones 8; rows = [] }

abbrev with_bare : ℕ → Class → Class → Directory → Directory
with_bare t k m q = record q { tables = set q.tables t (bare_table k m) }

place_table_fresh : (k m : Class) (o : Option model.Table) → place_table (table k m) o ≡ fresh (model_table k m) o
unfolding place_table place_inside
place_table_fresh k m None = refl
place_table_fresh k m (Some u) = refl

table_in_directory : (t : ℕ) (k m : Class) (x : model.Directory) → length x.tables ≡ 2
    → map_o packed_directory (place_part (inside (t, table k m)) (Some x)) ≡ when (table_may t (packed_directory (Some x))) (with_bare t k m (packed_directory (Some x)))
unfolding place_part packed_directory packed_table packed_berth packed_group packed_column pad table_may
table_in_directory t k m x e =
    rw (place_same place_table fresh t (table k m) (model_table k m) x.tables (place_table_fresh k m), place_fresh t (model_table k m) x.tables, e, map_when, map_when, drop-map, tables-away, map-set packed_table x.tables t (Some (model_table k m))) refl

table_in_place : (t : ℕ) (k m : Class) (o : Option model.Directory) → ((x : model.Directory) → o ≡ Some x → length x.tables ≡ 2)
    → map_o packed_directory (place_part (inside (t, table k m)) o) ≡ when (table_may t (packed_directory o)) (with_bare t k m (packed_directory o))
unfolding place_part packed_directory table_may
table_in_place t k m None e = refl
table_in_place t k m (Some x) e = table_in_directory t k m x (e x refl)

pub table_placed : (d t : ℕ) (k m : Class) (s : model.Store) → length s ≡ 4 → ((x : model.Directory) → at d s ≡ Some x → length x.tables ≡ 2)
    → map_o packed (place (d, inside (t, table k m)) s) ≡ table_set d t k m (packed s)
unfolding table_set table_fits
table_placed d t k m s e h =
    rw (placed_in_store d (inside (t, table k m)) s (λ (q : Directory). when (table_may t q) (with_bare t k m q)) e (λ o g. table_in_place t k m o (λ x i. h x (at-get d s o g ∙ i))))
    (three_tests (λ (q : Directory). record { dirs = set (packed s).dirs d q }) (ltb d 4) (all directory_away (drop (d + 1) (packed s).dirs)) (table_may t (directory_of d (packed s))) (with_bare t k m (directory_of d (packed s))))

-- ---- a part of a table
table_inside : (p : TablePart) (u : model.Table) → place_table p (Some u) ≡ map_o Some (place_inside p u)
unfolding place_table
table_inside (table k m) u = refl
table_inside (berth x) u = refl
table_inside (group x) u = refl
table_inside (column x) u = refl
table_inside (row k fs) u = refl

-- the step of a table that stands
abbrev pub where_there : (Table → Option Table) → Table → Option Table
where_there step q = provided q.there (step q)

-- and of the table at a number of a directory
abbrev pub in_directory : ℕ → (Table → Option Table) → Directory → Option Directory
in_directory t step x =
    provided x.there
    (provided (ltb t 2 && all table_away (drop (t + 1) x.tables))
    (map_o (λ (q : Table). record x { tables = set x.tables t q }) (where_there step (get_or x.tables t past_table))))

part_in_table : (p : TablePart) (step : Table → Option Table) (o : Option model.Table) → place_table p None ≡ None
    → ((u : model.Table) → o ≡ Some u → map_o (λ (v : model.Table). packed_table (Some v)) (place_inside p u) ≡ step (packed_table (Some u)))
    → map_o packed_table (place_table p o) ≡ where_there step (packed_table o)
unfolding packed_table
part_in_table p step None n h = rw n refl
part_in_table p step (Some u) n h = rw (table_inside p u, map-twice, ← h u refl) refl

part_in_directory : (t : ℕ) (p : TablePart) (step : Table → Option Table) (o : Option model.Directory) → place_table p None ≡ None
    → ((x : model.Directory) → o ≡ Some x → length x.tables ≡ 2)
    → ((x : model.Directory) (u : model.Table) → o ≡ Some x → at t x.tables ≡ Some u → map_o (λ (v : model.Table). packed_table (Some v)) (place_inside p u) ≡ step (packed_table (Some u)))
    → map_o packed_directory (place_part (inside (t, p)) o) ≡ in_directory t step (packed_directory o)
unfolding place_part packed_directory packed_table
part_in_directory t p step None n e h = refl
part_in_directory t p step (Some x) n e h =
    let f : List Table → Directory = λ l. record { there = true; exist = x.exist; class = x.class; tables = l } in
    rw (
      map-twice,
      ← map-twice f (map packed_table) (place_at place_table t p x.tables),
      place_packed place_table packed_table table_away past_table (where_there step) t p x.tables refl (λ a. refl) (λ o g. part_in_table p step o n (λ u i. h x u refl (at-get t x.tables o g ∙ i))),
      e x refl,
      map_provided f _ (map_o (λ (q : Table). set (map packed_table x.tables) t q) _),
      map-twice,
    ) refl

-- a step under all the tests, in one
pub all_tests : {A B C : Type 0} (f : B → C) (g : A → B) (a b c d e v : Bool) (o : Option A)
    → provided (a && b) (map_o f (provided c (provided (d && e) (map_o g (provided v o))))) ≡ cond (a && (b && (c && (d && (v && e))))) (map_o (λ (q : A). f (g q)) o) None
all_tests f g true true true true true true o = map-twice f g o
all_tests f g true true true true true false o = refl
all_tests f g true true true true false true o = refl
all_tests f g true true true true false false o = refl
all_tests f g true true true false e v o = refl
all_tests f g true true false d e v o = refl
all_tests f g true false c d e v o = refl
all_tests f g false b c d e v o = refl

pub part_placed : (d t : ℕ) (p : TablePart) (step : Table → Option Table) (s : model.Store) → length s ≡ 4 → place_table p None ≡ None
    → ((x : model.Directory) → at d s ≡ Some x → length x.tables ≡ 2)
    → ((u : model.Table) → model.table_at d t s ≡ Some u → map_o (λ (v : model.Table). packed_table (Some v)) (place_inside p u) ≡ step (packed_table (Some u)))
    → map_o packed (place (d, inside (t, p)) s) ≡ in_table d t step (packed s)
unfolding in_table is_last stands_last model.table_at
part_placed d t p step s e n w h =
    rw (placed_in_store d (inside (t, p)) s (in_directory t step) e
    (λ o g. part_in_directory t p step o n (λ x i. w x (at-get d s o g ∙ i)) (λ x u i j. h u (rw (at-get d s o g ∙ i) j))))
    (all_tests (λ (q : Directory). record { dirs = set (packed s).dirs d q }) (λ (q : Table). record (directory_of d (packed s)) { tables = set (directory_of d (packed s)).tables t q })
    (ltb d 4) (all directory_away (drop (d + 1) (packed s).dirs)) (directory_of d (packed s)).there (ltb t 2) (all table_away (drop (t + 1) (directory_of d (packed s)).tables)) (table_of d t (packed s)).there (step (table_of d t (packed s))))
