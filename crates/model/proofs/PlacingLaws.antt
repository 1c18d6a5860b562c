-- Placing the records of a store gives the store back; and the records of what was placed are those that were placed.
-- Assumes nothing.
use mathlib.Core.Path.{◌∙◌, ◌≡◌, ap, refl, sym}
use mathlib.Core.Bool.{◌&&◌, false≢true, true}
use mathlib.Core.List.{List, [], ◌++◌, ◌∷◌, append_assoc, append-nil, map}
use Rattle.std.specs.Prelude.{Option, None, Some}
use Prim.Native.Nat.{suc, zero, ℕ}
use lib.ListN.{length}
use Rattle.model.specs.declared.Class.{Class}
use Rattle.model.specs.declared.Field.{Field}
use Rattle.model.specs.Places.{Places, and_then, emptied, filled, map_o, nones}
use Rattle.model.specs.Parts.{Column, Directory, Row, Store, Table}
use Rattle.model.specs.Records.{Part, TablePart, berth, column, directory, directory_records, first, fresh, group, inside, later, no_rows, numbered, of_option, place, place_at, place_in, place_inside, place_part, place_table, records, row, row_record, single, spread, table, table_of, table_records, vacant}
use Rattle.model.specs.Conditions.{Every}
use Rattle.model.proofs.Tests.{and-fst, and-snd}
use Rattle.model.proofs.Every.{EveryIn, map-append}
use Rattle.model.proofs.OptionLaws.{map-some, map-twice, nothing_is, provided-some}

-- ---- steps, one after another
module _ {R A : Type 0} where
  abbrev pub run : (R → A → Option A) → List R → A → Option A
  run f [] a = Some a
  run f (r ∷ rs) a = and_then (f r a) (run f rs)

  pub run-append : (f : R → A → Option A) (rs ss : List R) (a : A) → run f (rs ++ ss) a ≡ and_then (run f rs a) (run f ss)
  run-append f [] ss a = refl
  run-append f (r ∷ rs) ss a = go (f r a) (run-append f rs ss)
    where
      go : (o : Option A) → ((b : A) → run f (rs ++ ss) b ≡ and_then (run f rs b) (run f ss)) → and_then o (run f (rs ++ ss)) ≡ and_then (and_then o (run f rs)) (run f ss)
      go None ih = refl
      go (Some b) ih = ih b

  -- a step adds its record behind those that stand
  abbrev pub Adds : (R → A → Option A) → (A → List R) → Type 0
  Adds f recs = (r : R) (a b : A) → f r a ≡ Some b → recs b ≡ recs a ++ (r ∷ [])

-- steps inside a larger thing are steps of that thing
module _ {R R' A A' : Type 0} (f : R → A → Option A) (f' : R' → A' → Option A') (c : R → R') (e : A → A') where
  pub run_inside : ((r : R) (a : A) → f' (c r) (e a) ≡ map_o e (f r a)) → (rs : List R) (a : A) → run f' (map c rs) (e a) ≡ map_o e (run f rs a)
  run_inside h [] a = refl
  run_inside h (r ∷ rs) a = rw (h r a) (go (f r a) (run_inside h rs))
    where
      go : (o : Option A) → ((b : A) → run f' (map c rs) (e b) ≡ map_o e (run f rs b)) → and_then (map_o e o) (run f' (map c rs)) ≡ map_o e (and_then o (run f rs))
      go None ih = refl
      go (Some b) ih = ih b

-- ---- numbered places
module _ {A : Type 0} where
  pub vacant-emptied : (l : Places A) → vacant (emptied l) ≡ true
  vacant-emptied [] = refl
  vacant-emptied (o ∷ l) = vacant-emptied l

pub emptied-nones : {A : Type 0} (n : ℕ) (l : Places A) → length l ≡ n → emptied l ≡ nones n
emptied-nones n [] e = rw (← e)
emptied-nones n (o ∷ l) e = rw (← e, emptied-nones (length l) l refl)

module _ {A R : Type 0} (recs : A → List R) where
  pub vacant-numbered : (l : Places A) → vacant l ≡ true → numbered recs l ≡ []
  vacant-numbered [] v = refl
  vacant-numbered (None ∷ l) v = ap (map later) (vacant-numbered l v)
  vacant-numbered (Some a ∷ l) v = absurd (false≢true v)

  module _ (f : R → Option A → Option (Option A)) where
    -- read, then written
    place_at_adds : Adds f (of_option recs) → (n : ℕ) (r : R) (l m : Places A) → place_at f n r l ≡ Some m → numbered recs m ≡ numbered recs l ++ ((n, r) ∷ [])
    place_at_adds h n r [] m e = nothing_is e
    place_at_adds h zero r (o ∷ l) m e =
        let (v, x) = provided-some (vacant l) (map_o (λ (y : Option A). y ∷ l) (f r o)) m e in
        let (o', p, q) = map-some (λ (y : Option A). y ∷ l) (f r o) m x in
        rw (← q, h r o o' p, vacant-numbered l v, append-nil (map first (of_option recs o ++ (r ∷ []))), append-nil (map first (of_option recs o))) (map-append first (of_option recs o) (r ∷ []))
    place_at_adds h (suc n) r (o ∷ l) m e =
        let (l', p, q) = map-some (λ (y : Places A). o ∷ y) (place_at f n r l) m e in
        rw (← q, place_at_adds h n r l l' p, map-append later (numbered recs l) ((n, r) ∷ [])) (sym (append_assoc (map first (of_option recs o)) (map later (numbered recs l)) ((suc n, r) ∷ [])))

    pub place_in_adds : Adds f (of_option recs) → Adds (place_in f) (numbered recs)
    place_in_adds h x l m e = place_at_adds h x.0 x.1 l m e

    -- written, then read
    pub place_in_run : (P : A → Type 0) → ((a : A) → P a → run f (recs a) None ≡ Some (Some a)) → (l : Places A) → EveryIn P l → run (place_in f) (numbered recs l) (emptied l) ≡ Some l
    place_in_run P h [] k = refl
    place_in_run P h (o ∷ l) k =
        run-append (place_in f) (map first (of_option recs o)) (map later (numbered recs l)) (None ∷ emptied l)
        ∙ rw (run_inside f (place_in f) first (λ (x : Option A). x ∷ emptied l) (λ r x. rw (vacant-emptied l)) (of_option recs o) None, go o k)
        (run_inside (place_in f) (place_in f) later (λ (x : Places A). o ∷ x) (λ r x. refl) (numbered recs l) (emptied l) ∙ rw (place_in_run P h l (rest o k)))
      where
        go : (o : Option A) → EveryIn P (o ∷ l) → run f (of_option recs o) None ≡ Some o
        go None k = refl
        go (Some a) k = h a k.0

        rest : (o : Option A) → EveryIn P (o ∷ l) → EveryIn P l
        rest None k = k
        rest (Some a) k = k.1

-- ---- tables
fresh_adds : {A : Type 0} → Adds (fresh {A = A}) (of_option single)
fresh_adds a None o e = let q : Some a ≡ o = cc in rw (← q)
fresh_adds a (Some b) o e = nothing_is e

pub spread-filled : (ks : Places Column) (fs : List Field) (l : Places Field) → spread ks fs ≡ Some l → filled l ≡ fs
unfolding spread
spread-filled [] [] l e = let q : [] ≡ l = cc in rw (← q)
spread-filled [] (f ∷ fs) l e = nothing_is e
spread-filled (None ∷ ks) fs l e =
    let (m, p, q) = map-some (λ (l : Places Field). None ∷ l) (spread ks fs) l e in
    rw (← q) (spread-filled ks fs m p)
spread-filled (Some k ∷ ks) [] l e = nothing_is e
spread-filled (Some k ∷ ks) (f ∷ fs) l e =
    let (m, p, q) = map-some (λ (l : Places Field). Some f ∷ l) (spread ks fs) l e in
    rw (← q) (ap (λ (x : List Field). f ∷ x) (spread-filled ks fs m p))

no_rows_lem : (rs : List Row) → no_rows rs ≡ true → rs ≡ []
no_rows_lem [] e = refl
no_rows_lem (r ∷ rs) e = absurd (false≢true e)

-- a record behind the last of a list; lists before it, and emptied ones behind, do not matter
module _ {R : Type 0} where
  behind : (a b : List R) (x : R) → b ≡ [] → (a ++ (x ∷ [])) ++ b ≡ (a ++ b) ++ (x ∷ [])
  behind a b x e = rw (e, append-nil (a ++ (x ∷ [])), append-nil a)

  under : (a b c : List R) (x : R) → c ≡ b ++ (x ∷ []) → a ++ c ≡ (a ++ b) ++ (x ∷ [])
  under a b c x e = rw e (sym (append_assoc a b (x ∷ [])))

-- the records of places under a name, one more or none
module _ {A R : Type 0} (name : ℕ × A → R) where
  abbrev named : Places A → List R
  named l = map name (numbered single l)

  named_more : (x : ℕ × A) (l m : Places A) → place_in fresh x l ≡ Some m → named m ≡ named l ++ (name x ∷ [])
  named_more x l m e = rw (place_in_adds single fresh fresh_adds x l m e) (map-append name (numbered single l) (x ∷ []))

  named_none : (l : Places A) (b : List R) → vacant l ≡ true → b ≡ [] → named l ++ b ≡ []
  named_none l b v e = rw (vacant-numbered single l v, e)

place_inside_adds : (p : TablePart) (t u : Table) → place_inside p t ≡ Some u → table_records u ≡ table_records t ++ (p ∷ [])
unfolding place_inside table_records row_record
place_inside_adds (table k m) t u e = nothing_is e
place_inside_adds (berth x) t u e =
    let (v, y) = provided-some (vacant t.groups && (vacant t.columns && no_rows t.rows)) _ u e in
    let (l, p, q) = map-some (λ (l : Places Class). table_of t.class t.max l t.groups t.columns t.rows) (place_in fresh x t.berths) u y in
    let v' = and-snd (vacant t.groups) (vacant t.columns && no_rows t.rows) v in
    let r = ap (map row_record) (no_rows_lem t.rows (and-snd (vacant t.columns) (no_rows t.rows) v')) in
    let c = named_none column t.columns (map row_record t.rows) (and-fst (vacant t.columns) (no_rows t.rows) v') r in
    let g = named_none group t.groups (named column t.columns ++ map row_record t.rows) (and-fst (vacant t.groups) (vacant t.columns && no_rows t.rows) v) c in
    ap table_records (sym q)
    ∙ ap (λ (x : List TablePart). table t.class t.max ∷ x)
    (rw (named_more berth x t.berths l p) (behind (named berth t.berths) (named group t.groups ++ (named column t.columns ++ map row_record t.rows)) (berth x) g))
place_inside_adds (group x) t u e =
    let (v, y) = provided-some (vacant t.columns && no_rows t.rows) _ u e in
    let (l, p, q) = map-some (λ (l : Places Class). table_of t.class t.max t.berths l t.columns t.rows) (place_in fresh x t.groups) u y in
    let r = ap (map row_record) (no_rows_lem t.rows (and-snd (vacant t.columns) (no_rows t.rows) v)) in
    let c = named_none column t.columns (map row_record t.rows) (and-fst (vacant t.columns) (no_rows t.rows) v) r in
    ap table_records (sym q)
    ∙ ap (λ (x : List TablePart). table t.class t.max ∷ x)
    (under (named berth t.berths) _ _ (group x)
    (rw (named_more group x t.groups l p) (behind (named group t.groups) (named column t.columns ++ map row_record t.rows) (group x) c)))
place_inside_adds (column x) t u e =
    let (v, y) = provided-some (no_rows t.rows) _ u e in
    let (l, p, q) = map-some (λ (l : Places Column). table_of t.class t.max t.berths t.groups l t.rows) (place_in fresh x t.columns) u y in
    ap table_records (sym q)
    ∙ ap (λ (x : List TablePart). table t.class t.max ∷ x)
    (under (named berth t.berths) _ _ (column x) (under (named group t.groups) _ _ (column x)
    (rw (named_more column x t.columns l p) (behind (named column t.columns) (map row_record t.rows) (column x) (ap (map row_record) (no_rows_lem t.rows v))))))
place_inside_adds (row k fs) t u e =
    let (l, p, q) = map-some (λ (l : Places Field). table_of t.class t.max t.berths t.groups t.columns (t.rows ++ (record { exist = k; fields = l } ∷ []))) (spread t.columns fs) u e in
    ap table_records (sym q)
    ∙ ap (λ (x : List TablePart). table t.class t.max ∷ x)
    (under (named berth t.berths) _ _ (row k fs) (under (named group t.groups) _ _ (row k fs) (under (named column t.columns) _ _ (row k fs)
    (map-append row_record t.rows (record { exist = k; fields = l } ∷ []) ∙ rw (spread-filled t.columns fs l p)))))

place_table_adds : Adds place_table (of_option table_records)
unfolding place_table table_records
place_table_adds (table k m) None u e = let q : Some (table_of k m (nones 4) (nones 4) (nones 8) []) ≡ u = cc in rw (← q)
place_table_adds (berth x) None u e = nothing_is e
place_table_adds (group x) None u e = nothing_is e
place_table_adds (column x) None u e = nothing_is e
place_table_adds (row k fs) None u e = nothing_is e
place_table_adds p (Some t) u e =
    let (x, y, q) = map-some Some (place_inside p t) u e in
    ap (of_option table_records) (sym q) ∙ place_inside_adds p t x y

-- ---- directories and stores
place_part_adds : Adds place_part (of_option directory_records)
unfolding place_part directory_records
place_part_adds (directory x k) None u e = let q : Some (record { exist = x; class = k; tables = nones 2 }) ≡ u = cc in rw (← q)
place_part_adds (directory x k) (Some d) u e = nothing_is e
place_part_adds (inside p) None u e = nothing_is e
place_part_adds (inside p) (Some d) u e =
    let (l, y, q) = map-some (λ (l : Places Table). Some (record { exist = d.exist; class = d.class; tables = l })) (place_in place_table p d.tables) u e in
    ap (of_option directory_records) (sym q)
    ∙ ap (λ (x : List Part). directory d.exist d.class ∷ x) (rw (place_in_adds table_records place_table place_table_adds p d.tables l y) (map-append inside (numbered table_records d.tables) (p ∷ [])))

-- a record that was placed is the last of the store's records
pub place_adds : Adds place records
unfolding place records
place_adds = place_in_adds directory_records place_part place_part_adds

-- ---- written, then read
-- a store has the right number of places, and a field for each column
pub record TableShape (t : Table) : Type 0 where
  pub berths4 : length t.berths ≡ 4
  pub groups4 : length t.groups ≡ 4
  pub columns8 : length t.columns ≡ 8
  pub rows_fit : Every (λ (r : Row). spread t.columns (filled r.fields) ≡ Some r.fields) t.rows

pub record DirectoryShape (d : Directory) : Type 0 where
  pub tables2 : length d.tables ≡ 2
  pub tables-fit : EveryIn TableShape d.tables

pub record Shape (s : Store) : Type 0 where
  pub directories4 : length s ≡ 4
  pub directories_fit : EveryIn DirectoryShape s

module _ {A : Type 0} where
  anything : (l : Places A) → EveryIn (λ a. Unit {0}) l
  anything [] = tt
  anything (None ∷ l) = anything l
  anything (Some a ∷ l) = (tt, anything l)

  single-run : (n : ℕ) (l : Places A) → length l ≡ n → run (place_in fresh) (numbered single l) (nones n) ≡ Some l
  single-run n l e = rw (← emptied-nones n l e) (place_in_run single fresh (λ a. Unit {0}) (λ a u. refl) l (anything l))

-- the parts of one kind of a table, which is e of their places
part-run : {A : Type 0} (name : ℕ × A → TablePart) (e : Places A → Table) (n : ℕ) (l : Places A) → length l ≡ n
    → ((x : ℕ × A) (m : Places A) → place_inside (name x) (e m) ≡ map_o e (place_in fresh x m))
    → run place_table (map name (numbered single l)) (Some (e (nones n))) ≡ Some (Some (e l))
unfolding place_table
part-run name e n l h step =
    run_inside (place_in fresh) place_table name (λ (m : Places _). Some (e m)) (λ x m. rw (step x m) (map-twice Some e (place_in fresh x m))) (numbered single l) (nones n)
    ∙ rw (single-run n l h)

rows_run : (k m : Class) (bs gs : Places Class) (cs : Places Column) (rs done : List Row)
    → Every (λ (r : Row). spread cs (filled r.fields) ≡ Some r.fields) rs
    → run place_table (map row_record rs) (Some (table_of k m bs gs cs done)) ≡ Some (Some (table_of k m bs gs cs (done ++ rs)))
unfolding place_table place_inside row_record
rows_run k m bs gs cs [] done h = rw (append-nil done)
rows_run k m bs gs cs (r ∷ rs) done h = rw h.0 (rows_run k m bs gs cs rs (done ++ (r ∷ [])) h.1 ∙ rw (append_assoc done (r ∷ []) rs))

table-run : (t : Table) → TableShape t → run place_table (table_records t) None ≡ Some (Some t)
unfolding place_table place_inside table_records
table-run t h =
    run-append place_table (map berth (numbered single t.berths)) _ _
    ∙ rw (part-run berth (λ (l : Places Class). table_of t.class t.max l (nones 4) (nones 8) []) 4 t.berths h.berths4 (λ x l. refl))
    (run-append place_table (map group (numbered single t.groups)) _ _
    ∙ rw (part-run group (λ (l : Places Class). table_of t.class t.max t.berths l (nones 8) []) 4 t.groups h.groups4 (λ x l. refl))
    (run-append place_table (map column (numbered single t.columns)) _ _
    ∙ rw (part-run column (λ (l : Places Column). table_of t.class t.max t.berths t.groups l []) 8 t.columns h.columns8 (λ x l. refl))
    (rows_run t.class t.max t.berths t.groups t.columns t.rows [] h.rows_fit)))

directory-run : (d : Directory) → DirectoryShape d → run place_part (directory_records d) None ≡ Some (Some d)
unfolding place_part directory_records
directory-run d h =
    run_inside (place_in place_table) place_part inside (λ (l : Places Table). Some (record { exist = d.exist; class = d.class; tables = l })) (λ p l. refl) (numbered table_records d.tables) (nones 2)
    ∙ rw (← emptied-nones 2 d.tables h.tables2, place_in_run table_records place_table TableShape table-run d.tables h.tables-fit)

-- the records of a store, placed one after another, make that store
pub place-run : (s : Store) → Shape s → run place (records s) (nones 4) ≡ Some s
unfolding place records
place-run s h = rw (← emptied-nones 4 s h.directories4) (place_in_run directory_records place_part DirectoryShape directory-run s h.directories_fit)
