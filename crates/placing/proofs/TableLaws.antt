-- A part set at its place in the structs is the part placed in the model's table.
-- Assumes nothing.
use mathlib.Core.Path.{◌≡◌, ap, refl}
use native.Mathlib.Omega.{arith}
use lib.Dec.{eqb-suc-zero, leb-suc-suc, leb-suc-zero}
use Rattle.std.proofs.lemmas.Bool.Decides.{nat_tests}
use Rattle.std.specs.Prelude.{Bool, true, false, ◌&&◌, ◌<◌, ◌++◌, List, [], ◌∷◌, map, ℕ, ◌+◌, ◌-◌, zero, suc, length, replicate, set, drop, eqb, ltb, Option, None, Some}
use Rattle.std.proofs.Math.Bool.{and-true}
use Rattle.std.proofs.Math.Seq.{set-append_seam}
use Rattle.std.proofs.lemmas.List.{append_assoc, drop-map, length-append, length-map, map-set}
use Rattle.lists.specs.Pad.{pad}
use Rattle.model.proofs.Every.{map-append}
use Rattle.model.specs.declared.Class.{Class}
use Rattle.model.specs.declared.Field.{Field}
use Rattle.model.specs.Places.{Places, all, map_o, when}
use Rattle.model.specs.Parts as model
use Rattle.model.specs.Records.{berth, column, fresh, group, no_rows, place_at, place_inside, provided, row, spread, vacant}
use Rattle.store.specs.Canonical.{berth_away, column_away, group_away}
use Rattle.store.specs.Packed.{no_row, packed_berth, packed_column, packed_field, packed_group, packed_row, packed_table}
use Rattle.placing.specs.Tables.{berth_fits, berth_set, column_fits, column_set, group_fits, group_set}

-- ---- numbers
pub below_more : (n : ℕ) → ltb 0 (suc n) ≡ true
below_more n = grind (arith, nat_tests)

pub below_next : (n m : ℕ) → ltb (suc n) (suc m) ≡ ltb n m
below_next n m = leb-suc-suc (suc n) m

-- ---- places
-- a part comes at a number that there is, where no part stands from there on
pub place_fresh : {A : Type 0} (n : ℕ) (a : A) (l : Places A) → place_at fresh n a l ≡ when (ltb n (length l) && vacant (drop n l)) (set l n (Some a))
place_fresh zero a [] = refl
place_fresh (suc n) a [] = rw (leb-suc-zero (suc n))
place_fresh zero a (None ∷ l) = rw below_more (go (vacant l))
  where
    go : (b : Bool) → provided b (Some (Some a ∷ l)) ≡ when b (Some a ∷ l)
    go true = refl
    go false = refl
place_fresh {A} zero a (Some b ∷ l) = rw below_more (go (vacant l))
  where
    go : (p : Bool) → provided {A = Places A} p None ≡ None
    go true = refl
    go false = refl
place_fresh (suc n) a (o ∷ l) = rw (below_next, place_fresh n a l) (go (ltb n (length l) && vacant (drop n l)))
  where
    go : (b : Bool) → map_o (λ (x : Places _). o ∷ x) (when b (set l n (Some a))) ≡ when b (o ∷ set l n (Some a))
    go true = refl
    go false = refl

-- places are empty where each of their structs is away
pub all_away : {A B : Type 0} (f : Option A → B) (away : B → Bool) → away (f None) ≡ true → ((a : A) → away (f (Some a)) ≡ false) → (l : Places A) → all away (map f l) ≡ vacant l
all_away f away e h [] = refl
all_away f away e h (None ∷ l) = rw e (all_away f away e h l)
all_away f away e h (Some a ∷ l) = rw (h a)

pub berths_away : (l : Places Class) → all berth_away (map packed_berth l) ≡ vacant l
unfolding packed_berth
berths_away l = all_away packed_berth berth_away refl (λ a. refl) l

pub groups_away : (l : Places Class) → all group_away (map packed_group l) ≡ vacant l
unfolding packed_group
groups_away l = all_away packed_group group_away refl (λ a. refl) l

pub columns_away : (l : Places model.Column) → all column_away (map packed_column l) ≡ vacant l
unfolding packed_column
columns_away l = all_away packed_column column_away refl (λ a. refl) l

-- a table has no rows where their number is zero
pub count_zero : (l : List model.Row) → eqb (length l) 0 ≡ no_rows l
count_zero [] = refl
count_zero (r ∷ l) = eqb-suc-zero (length l)

-- ---- tests and steps
-- a step under a test, of places that come where another test passes
pub both_tests : {A B C : Type 0} (g : B → C) (f : A → B) (p q : Bool) (a : A) → map_o g (provided p (map_o f (when q a))) ≡ when (p && q) (g (f a))
both_tests g f true true a = refl
both_tests g f true false a = refl
both_tests g f false q a = refl

-- the first of three tests, put last
pub first_last : (a b c : Bool) → (a && (b && c)) ≡ (b && (c && a))
first_last true b c = rw (and-true c)
first_last false true true = refl
first_last false true false = refl
first_last false false c = refl

-- ---- the three parts
pub berth_placed : (n : ℕ) (k : Class) (t : model.Table) → length t.berths ≡ 4
    → map_o (λ (u : model.Table). packed_table (Some u)) (place_inside (berth (n, k)) t) ≡ berth_set n k (packed_table (Some t))
unfolding place_inside packed_table packed_berth berth_set berth_fits
berth_placed n k t e =
    rw (place_fresh n k t.berths, e, both_tests, drop-map, berths_away, groups_away, columns_away, count_zero, ← map-set packed_berth t.berths n (Some k), first_last (vacant t.groups && (vacant t.columns && no_rows t.rows)) (ltb n 4) _)

pub group_placed : (n : ℕ) (k : Class) (t : model.Table) → length t.groups ≡ 4
    → map_o (λ (u : model.Table). packed_table (Some u)) (place_inside (group (n, k)) t) ≡ group_set n k (packed_table (Some t))
unfolding place_inside packed_table packed_group group_set group_fits
group_placed n k t e =
    rw (place_fresh n k t.groups, e, both_tests, drop-map, groups_away, columns_away, count_zero, ← map-set packed_group t.groups n (Some k), first_last (vacant t.columns && no_rows t.rows) (ltb n 4) _)

pub column_placed : (n : ℕ) (c : model.Column) (t : model.Table) → length t.columns ≡ 8
    → map_o (λ (u : model.Table). packed_table (Some u)) (place_inside (column (n, c)) t) ≡ column_set n (packed_column (Some c)) (packed_table (Some t))
unfolding place_inside packed_table packed_column column_set column_fits
column_placed n c t e =
    rw (place_fresh n c t.columns, e, both_tests, drop-map, columns_away, count_zero, ← map-set packed_column t.columns n (Some c), first_last (no_rows t.rows) (ltb n 8) _)

-- ---- rows
pub replicate_less : {A : Type 0} (d : A) (m i : ℕ) → i < m → replicate (m - i) d ≡ d ∷ replicate (m - (i + 1)) d
replicate_less d m i h =
    let e : m - i ≡ suc (m - (i + 1)) = omega arith in
    rw e

-- one more element of a list that is filled up to a length
pub pad_set : {A : Type 0} (d : A) (m n : ℕ) (l : List A) (x : A) → length l ≡ n → n < m → set (pad d m l) n x ≡ pad d m (l ++ (x ∷ []))
unfolding pad
pad_set d m n l x e h = rw (length-append l (x ∷ []), e, replicate_less d m n h, append_assoc, ← e) (set-append_seam l d _ x)

-- two steps that agree with two others on each value, on what may be absent
pub map_both : {A B C D : Type 0} (g : B → C) (f : A → B) (h : D → C) (p : A → D) → ((a : A) → g (f a) ≡ h (p a)) → (o : Option A) → map_o g (map_o f o) ≡ map_o h (map_o p o)
map_both g f h p e None = refl
map_both g f h p e (Some a) = ap Some (e a)

-- a row placed in the model's table, in the structs: the fields that were spread, in one row more
pub row_packed : (k : Class) (fs : List Field) (t : model.Table) → length t.rows < 32
    → map_o (λ (u : model.Table). packed_table (Some u)) (place_inside (row k fs) t)
    ≡ map_o (λ (l : List Field). record (packed_table (Some t)) { count = length t.rows + 1; rows = set (packed_table (Some t)).rows (length t.rows) (record { exist = k; fields = l }) })
    (map_o (map packed_field) (spread t.columns fs))
unfolding place_inside packed_table packed_row
row_packed k fs t h =
    map_both _ _ _ _
    (λ l.
    let r : model.Row = record { exist = k; fields = l } in
    rw (pad_set no_row 32 (length t.rows) (map packed_row t.rows) (packed_row r) (length-map t.rows packed_row) h, length-append t.rows (r ∷ []), map-append packed_row t.rows (r ∷ [])))
    (spread t.columns fs)
