-- The records of a store that keeps the rules are in range; and a store whose records are in range has classes and values of ours.
-- Assumes nothing.
use mathlib.Core.Path.{◌≡◌, refl}
use mathlib.Core.Bool.{Bool, false≢true, true}
use mathlib.Core.List.{List, [], ◌∷◌, map}
use Rattle.std.specs.Prelude.{None, Some}
use Prim.Native.Nat.{◌<◌, ◌≤◌, suc, suc-le-suc, zero, ℕ}
use native.Mathlib.Omega.{arith}
use lib.Dec.{eqb}
use lib.ListN.{length}
use borrow.Author.Tests.{eqb-true}
use Rattle.model.specs.declared.Class.{Class}
use Rattle.model.specs.Places.{Places, all_in, at, sure}
use Rattle.model.specs.Classes.{class_sound, dominates}
use Rattle.model.specs.Values.{field_sound, fits}
use Rattle.model.specs.Parts.{Column, Directory, Row, Store, Table}
use Rattle.model.specs.Rules.{column_ok, column_sound, directory_ok, directory_sound, row_sound, ruled, sound, table_ok, table_sound, table_sounds}
use Rattle.model.specs.Records.{TablePart, berth, column, directory_records, first, group, inside, later, numbered, records, row_record, single, table, table_records}
use Rattle.model.specs.Conditions.{Every}
use Rattle.model.proofs.Tests.{and-fst, and-snd, both}
use Rattle.model.proofs.Every.{EveryIn, every_append, every_filled, every_imp, every_map, every_split, every_true, every_unmap, facts, filled_every, in_both, in_imp, in_true, of_facts, true_every, true_in}
use Rattle.model.proofs.TextLaws.{ClassIn, FieldIn}
use Rattle.model.proofs.RecordLaws.{PartIn, RecordIn, TablePartIn}
use Rattle.model.proofs.RuleLaws.{TableRules, table-rules}
use Rattle.model.proofs.ShapeLaws.{directory_shape, ruled_shape}

-- ---- the records of a table, by kind of part
module _ (P : TablePart → Type 0) (t : Table) where
  table-all : P (table t.class t.max)
      → Every (λ (x : ℕ × Class). P (berth x)) (numbered single t.berths)
      → Every (λ (x : ℕ × Class). P (group x)) (numbered single t.groups)
      → Every (λ (x : ℕ × Column). P (column x)) (numbered single t.columns)
      → Every (λ (r : Row). P (row_record r)) t.rows
      → Every P (table_records t)
  unfolding table_records
  table-all h b g c r = (
    h,
    every_append P (map berth (numbered single t.berths)) _ (every_map _ P berth (λ x k. k) (numbered single t.berths) b)
        (every_append P (map group (numbered single t.groups)) _ (every_map _ P group (λ x k. k) (numbered single t.groups) g)
        (every_append P (map column (numbered single t.columns)) _ (every_map _ P column (λ x k. k) (numbered single t.columns) c)
        (every_map _ P row_record (λ x k. k) t.rows r))),
  )

  table_parts_lem : Every P (table_records t)
      → P (table t.class t.max)
      × Every (λ (x : ℕ × Class). P (berth x)) (numbered single t.berths)
      × Every (λ (x : ℕ × Class). P (group x)) (numbered single t.groups)
      × Every (λ (x : ℕ × Column). P (column x)) (numbered single t.columns)
      × Every (λ (r : Row). P (row_record r)) t.rows
  unfolding table_records
  table_parts_lem h =
      let (b, h₁) = every_split P (map berth (numbered single t.berths)) _ h.1 in
      let (g, h₂) = every_split P (map group (numbered single t.groups)) _ h₁ in
      let (c, r) = every_split P (map column (numbered single t.columns)) _ h₂ in (
        h.0,
        every_unmap _ P berth (λ x k. k) (numbered single t.berths) b,
        every_unmap _ P group (λ x k. k) (numbered single t.groups) g,
        every_unmap _ P column (λ x k. k) (numbered single t.columns) c,
        every_unmap _ P row_record (λ x k. k) t.rows r,
      )

-- ---- the records of numbered places
-- those of each part have P, and their numbers are below the number of places
module _ {A R : Type 0} (recs : A → List R) (In : A → Type 0) (P : R → Type 0) (each : (a : A) → In a → Every P (recs a)) where
  abbrev Below : ℕ → ℕ × R → Type 0
  Below m x = (x.0 < m) × P x.1

  numbered_below : (l : Places A) → EveryIn In l → Every (Below (length l)) (numbered recs l)
  numbered_below [] h = tt
  numbered_below (None ∷ l) h = every_map (Below (length l)) (Below (suc (length l))) later (λ x k. (suc-le-suc k.0, k.1)) (numbered recs l) (numbered_below l h)
  numbered_below (Some a ∷ l) h =
      every_append (Below (suc (length l))) (map first (recs a)) (map later (numbered recs l))
      (every_map P (Below (suc (length l))) first (λ r k. (omega arith, k)) (recs a) (each a h.0))
      (every_map (Below (length l)) (Below (suc (length l))) later (λ x k. (suc-le-suc k.0, k.1)) (numbered recs l) (numbered_below l h.1))

  -- for places 0 to m
  numbered_in : (m : ℕ) (l : Places A) → length l ≡ suc m → EveryIn In l → Every (λ (x : ℕ × R). (x.0 ≤ m) × P x.1) (numbered recs l)
  numbered_in m l e h = every_imp (Below (length l)) _ (λ x k. let i : x.0 < length l = k.0 in (omega arith, k.1)) (numbered recs l) (numbered_below l h)

-- and back: a part whose records have P passes the test p
module _ {A R : Type 0} (recs : A → List R) (p : A → Bool) (P : R → Type 0) (each : (a : A) → Every P (recs a) → p a ≡ true) where
  in_numbered : (l : Places A) → Every (λ (x : ℕ × R). P x.1) (numbered recs l) → all_in p l ≡ true
  in_numbered [] h = refl
  in_numbered (None ∷ l) h = in_numbered l (every_unmap _ (λ (x : ℕ × R). P x.1) later (λ x k. k) (numbered recs l) h)
  in_numbered (Some a ∷ l) h =
      let (x, y) = every_split (λ (x : ℕ × R). P x.1) (map first (recs a)) (map later (numbered recs l)) h in
      both (p a) (all_in p l) (each a (every_unmap P _ first (λ r k. k) (recs a) x)) (in_numbered l (every_unmap _ _ later (λ x k. k) (numbered recs l) y))

-- parts that are one record each
module _ {A : Type 0} where
  singles_in : (P : A → Type 0) (m : ℕ) (l : Places A) → length l ≡ suc m → EveryIn P l → Every (λ (x : ℕ × A). (x.0 ≤ m) × P x.1) (numbered single l)
  singles_in P = numbered_in single P P (λ a k. (k, tt))

  in_singles : (P : ℕ × A → Type 0) (p : A → Bool) → ((x : ℕ × A) → P x → p x.1 ≡ true) → (l : Places A) → Every P (numbered single l) → all_in p l ≡ true
  in_singles P p f l h = in_numbered single p (λ (a : A). p a ≡ true) (λ a k. k.0) l (every_imp P _ f (numbered single l) h)

-- a part at a number is there only below the number of places
at_below : {A : Type 0} (p : A → Bool) (n : ℕ) (l : Places A) → sure p (at n l) ≡ true → n < length l
at_below p n [] e = absurd (false≢true e)
at_below p zero (o ∷ l) e = omega arith
at_below p (suc n) (o ∷ l) e = suc-le-suc (at_below p n l e)

-- ---- stores
module _ (w : ℕ) where
  -- a column's own record: its group is one of four
  abbrev ColumnIn : Column → Type 0
  ColumnIn k = (k.group ≤ 3) × FieldIn w k.default

  columns_in_lem : (t : Table) → TableRules t → all_in (column_sound w) t.columns ≡ true → EveryIn ColumnIn t.columns
  unfolding column_ok column_sound
  columns_in_lem t s h = in_imp _ ColumnIn one t.columns (in_both _ _ t.columns (in_true (column_ok t.groups) t.columns s.grouped) (in_true (column_sound w) t.columns h))
    where
      one : (k : Column) → (column_ok t.groups k ≡ true) × (column_sound w k ≡ true) → ColumnIn k
      one k e =
          let p : Class → Bool = λ (g : Class). dominates g k.default.class in
          let i = at_below p k.group t.groups (and-fst (sure p (at k.group t.groups)) (fits k.kind k.default.value) e.0) in
          let g = eqb-true (length t.groups) 4 s.groups4 in
          (omega arith, e.1)

  row_in : (r : Row) → row_sound w r ≡ true → TablePartIn w (row_record r)
  unfolding row_record row_sound
  row_in r h = (
    and-fst (class_sound w r.exist) (all_in (field_sound w) r.fields) h,
    every_filled (FieldIn w) r.fields (in_true (field_sound w) r.fields (and-snd (class_sound w r.exist) (all_in (field_sound w) r.fields) h)),
  )

  table_in : (t : Table) → (table_ok t ≡ true) × (table_sound w t ≡ true) → Every (TablePartIn w) (table_records t)
  unfolding table_sound table_sounds
  table_in t h =
      let s = table-rules t h.0 in
      let f = facts (table_sounds w t) h.1 in
      table-all (TablePartIn w) t (f.0, f.1.0)
      (singles_in (ClassIn w) 3 t.berths (eqb-true (length t.berths) 4 s.berths4) (in_true (class_sound w) t.berths f.1.1.0))
      (singles_in (ClassIn w) 3 t.groups (eqb-true (length t.groups) 4 s.groups4) (in_true (class_sound w) t.groups f.1.1.1.0))
      (singles_in ColumnIn 7 t.columns (eqb-true (length t.columns) 8 s.columns8) (columns_in_lem t s f.1.1.1.1.0))
      (every_imp _ _ row_in t.rows (every_true (row_sound w) t.rows f.1.1.1.1.1.0))

  directory_in : (d : Directory) → (directory_ok d ≡ true) × (directory_sound w d ≡ true) → Every (PartIn w) (directory_records d)
  unfolding directory_records directory_ok directory_sound
  directory_in d h =
      let f = facts (class_sound w d.exist ∷ class_sound w d.class ∷ all_in (table_sound w) d.tables ∷ []) h.1 in
      let ok = in_true table_ok d.tables (and-snd (eqb (length d.tables) 2) (all_in table_ok d.tables) h.0) in
      let both = in_both _ _ d.tables ok (in_true (table_sound w) d.tables f.1.1.0) in
      let inner = numbered_in table_records _ (TablePartIn w) table_in 1 d.tables (directory_shape d h.0).tables2 both in
      ((f.0, f.1.0), every_map _ (PartIn w) inside (λ x k. k) (numbered table_records d.tables) inner)

  pub records_in : (s : Store) → ruled s ≡ true → sound w s ≡ true → Every (RecordIn w) (records s)
  unfolding records ruled sound
  records_in s e h =
      let ok = in_true directory_ok s (and-snd (eqb (length s) 4) (all_in directory_ok s) e) in
      numbered_in directory_records _ (PartIn w) directory_in 3 s (ruled_shape s e).directories4 (in_both _ _ s ok (in_true (directory_sound w) s h))

  -- ---- and back
  in_row : (r : Row) → TablePartIn w (row_record r) → row_sound w r ≡ true
  unfolding row_record row_sound
  in_row r h = both (class_sound w r.exist) (all_in (field_sound w) r.fields) h.0 (true_in (field_sound w) r.fields (filled_every (FieldIn w) r.fields h.1))

  in_table : (t : Table) → Every (TablePartIn w) (table_records t) → table_sound w t ≡ true
  unfolding table_sound table_sounds column_sound
  in_table t h =
      let (k, b, g, c, r) = table_parts_lem (TablePartIn w) t h in
      let bs = in_singles _ (class_sound w) (λ x i. i.1) t.berths b in
      let gs = in_singles _ (class_sound w) (λ x i. i.1) t.groups g in
      let cs = in_singles _ (column_sound w) (λ x i. i.1.1) t.columns c in
      let rs = true_every (row_sound w) t.rows (every_imp _ _ in_row t.rows r) in
      of_facts (table_sounds w t) (k.0, (k.1, (bs, (gs, (cs, (rs, tt))))))

  in_directory : (d : Directory) → Every (PartIn w) (directory_records d) → directory_sound w d ≡ true
  unfolding directory_records directory_sound
  in_directory d h =
      let inner = every_unmap _ (PartIn w) inside (λ x i. i.1) (numbered table_records d.tables) h.1 in
      let ts = in_numbered table_records (table_sound w) (TablePartIn w) in_table d.tables inner in
      of_facts (class_sound w d.exist ∷ class_sound w d.class ∷ all_in (table_sound w) d.tables ∷ []) (h.0.0, (h.0.1, (ts, tt)))

  pub records-sound : (s : Store) → Every (RecordIn w) (records s) → sound w s ≡ true
  unfolding records sound
  records-sound s h = in_numbered directory_records (directory_sound w) (PartIn w) in_directory s (every_imp (RecordIn w) _ (λ x i. i.1) (numbered directory_records s) h)
