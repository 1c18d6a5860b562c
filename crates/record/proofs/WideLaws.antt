-- What `few` leaves out can not be placed in a store whose tables have eight columns or fewer, and such a store stays one.
-- Assumes nothing.
use mathlib.Core.Path.{◌∙◌, ◌≡◌, ap, refl, sym}
use mathlib.Core.Bool.{Bool, ◌&&◌, false, false≢true, true}
use mathlib.Core.List.{List, [], ◌++◌, ◌∷◌}
use Rattle.std.specs.Prelude.{Option, None, Some}
use Prim.Native.Nat.{◌<◌, ◌≤◌, suc, zero, ℕ}
use native.Mathlib.Omega.{arith}
use lib.ListN.{length}
use borrow.Author.Tests.{leb-false}
use Rattle.model.specs.declared.Class.{Class}
use Rattle.model.specs.declared.Field.{Field}
use Rattle.model.specs.Parts.{Column, Directory, Store, Table}
use Rattle.model.specs.Places.{Places, and_then, map_o, nones, when}
use Rattle.model.specs.Records.{Part, Record, TablePart, berth, column, directory, fresh, group, inside, no_rows, place, place_at, place_in, place_inside, place_part, place_table, provided, row, spread, table, table_of, vacant}
use Rattle.model.proofs.Every.{EveryIn, in_imp}
use Rattle.model.proofs.OptionLaws.{map-some, nothing_is, provided-some}
use Rattle.model.proofs.PlacingLaws.{DirectoryShape, Shape, TableShape}
use Rattle.record.specs.Records.{few, narrow, narrow_in, narrow_part}

-- ---- what is left in
pub few-some : (o : Option Record) (r : Record) → few o ≡ Some r → (o ≡ Some r) × (narrow r ≡ true)
unfolding few
few-some None r e = nothing_is e
few-some (Some x) r e = go (narrow x) refl e
  where
    go : (b : Bool) → narrow x ≡ b → when b x ≡ Some r → (Some x ≡ Some r) × (narrow r ≡ true)
    go true h e = let z : x ≡ r = cc in (e, rw (← z) h)
    go false h e = nothing_is e

-- ---- stores whose tables have eight columns or fewer
abbrev pub TableEight : Table → Type 0
TableEight t = length t.columns ≤ 8

abbrev pub DirectoryEight : Directory → Type 0
DirectoryEight d = EveryIn TableEight d.tables

abbrev pub Eight : Store → Type 0
Eight s = EveryIn DirectoryEight s

pub shape_eight : (s : Store) → Shape s → Eight s
shape_eight s h = in_imp DirectoryShape DirectoryEight (λ d k. in_imp TableShape TableEight (λ t x. omega (arith, x.columns8)) d.tables k.tables-fit) s h.directories_fit

-- ---- a wider row has no place in them
spread-wide : (ks : Places Column) (fs : List Field) → length ks < length fs → spread ks fs ≡ None
unfolding spread
spread-wide [] [] h = absurd (omega arith)
spread-wide [] (f ∷ fs) h = refl
spread-wide (None ∷ ks) fs h = rw (spread-wide ks fs (omega arith))
spread-wide (Some k ∷ ks) [] h = refl
spread-wide (Some k ∷ ks) (f ∷ fs) h = rw (spread-wide ks fs (omega arith))

provided-none : {A : Type 0} (b : Bool) → provided {A = A} b None ≡ None
provided-none true = refl
provided-none false = refl

module _ {A R : Type 0} (f : R → Option A → Option (Option A)) (r : R) (P : A → Type 0) where
  -- no part takes it, so it has no place
  place_none : f r None ≡ None → ((a : A) → P a → f r (Some a) ≡ None) → (n : ℕ) (l : Places A) → EveryIn P l → place_at f n r l ≡ None
  place_none e h n [] k = refl
  place_none e h zero (None ∷ l) k = rw e (provided-none (vacant l))
  place_none e h zero (Some a ∷ l) k = rw (h a k.0) (provided-none (vacant l))
  place_none e h (suc n) (None ∷ l) k = rw (place_none e h n l k)
  place_none e h (suc n) (Some a ∷ l) k = rw (place_none e h n l k.1)

wide-table : (p : TablePart) → narrow_in p ≡ false → (t : Table) → TableEight t → place_table p (Some t) ≡ None
unfolding place_table place_inside
wide-table (table k m) e t h = absurd (false≢true (sym e))
wide-table (berth x) e t h = absurd (false≢true (sym e))
wide-table (group x) e t h = absurd (false≢true (sym e))
wide-table (column x) e t h = absurd (false≢true (sym e))
wide-table (row k fs) e t h = let x : 8 < length fs = leb-false (length fs) 8 e in rw (spread-wide t.columns fs (omega arith))

wide-new : (p : TablePart) → narrow_in p ≡ false → place_table p None ≡ None
unfolding place_table
wide-new (table k m) e = absurd (false≢true (sym e))
wide-new (berth x) e = refl
wide-new (group x) e = refl
wide-new (column x) e = refl
wide-new (row k fs) e = refl

wide-part : (p : Part) → narrow_part p ≡ false → (d : Directory) → DirectoryEight d → place_part p (Some d) ≡ None
unfolding place_part
wide-part (directory x k) e d h = absurd (false≢true (sym e))
wide-part (inside p) e d h = rw (place_none place_table p.1 TableEight (wide-new p.1 e) (wide-table p.1 e) p.0 d.tables h)

wide-first : (p : Part) → narrow_part p ≡ false → place_part p None ≡ None
unfolding place_part
wide-first (directory x k) e = absurd (false≢true (sym e))
wide-first (inside p) e = refl

place-wide : (r : Record) (s : Store) → Eight s → narrow r ≡ false → place r s ≡ None
unfolding place narrow
place-wide r s h e = place_none place_part r.1 DirectoryEight (wide-first r.1 e) (wide-part r.1 e) r.0 s h

-- so that nothing changes where it is left out before it is placed
pub few-place : (o : Option Record) (s : Store) → Eight s → and_then (few o) (λ (r : Record). place r s) ≡ and_then o (λ (r : Record). place r s)
unfolding few
few-place None s h = refl
few-place (Some r) s h = go (narrow r) refl
  where
    go : (b : Bool) → narrow r ≡ b → and_then (when b r) (λ (r : Record). place r s) ≡ place r s
    go true e = refl
    go false e = sym (place-wide r s h e)

-- ---- such a store stays one
pub eight_starts : Eight (nones 4)
eight_starts = tt

module _ {A : Type 0} (P : A → Type 0) where
  -- of a part that may be absent
  abbrev If : Option A → Type 0
  If None = Unit {0}
  If (Some a) = P a

  with_it : (o : Option A) (l : Places A) → If o → EveryIn P l → EveryIn P (o ∷ l)
  with_it None l h k = k
  with_it (Some a) l h k = (h, k)

  apart : (o : Option A) (l : Places A) → EveryIn P (o ∷ l) → If o × EveryIn P l
  apart None l h = (tt, h)
  apart (Some a) l h = h

module _ {A R : Type 0} (f : R → Option A → Option (Option A)) (r : R) where
  place-keeps : (P : A → Type 0) → ((o m : Option A) → f r o ≡ Some m → If P o → If P m) → (n : ℕ) (l m : Places A) → place_at f n r l ≡ Some m → EveryIn P l → EveryIn P m
  place-keeps P h n [] m e k = nothing_is e
  place-keeps P h zero (o ∷ l) m e k =
      let x = (provided-some (vacant l) (map_o (λ (y : Option A). y ∷ l) (f r o)) m e).1 in
      let (p, q, z) = map-some (λ (y : Option A). y ∷ l) (f r o) m x in
      let (a, b) = apart P o l k in
      rw (← z) (with_it P p l (h o p q a) b)
  place-keeps P h (suc n) (o ∷ l) m e k =
      let (p, q, z) = map-some (λ (y : Places A). o ∷ y) (place_at f n r l) m e in
      let (a, b) = apart P o l k in
      rw (← z) (with_it P o p a (place-keeps P h n l p q b))

  place-long : (n : ℕ) (l m : Places A) → place_at f n r l ≡ Some m → length m ≡ length l
  place-long n [] m e = nothing_is e
  place-long zero (o ∷ l) m e =
      let x = (provided-some (vacant l) (map_o (λ (y : Option A). y ∷ l) (f r o)) m e).1 in
      let (p, q, z) = map-some (λ (y : Option A). y ∷ l) (f r o) m x in
      ap length (sym z)
  place-long (suc n) (o ∷ l) m e =
      let (p, q, z) = map-some (λ (y : Places A). o ∷ y) (place_at f n r l) m e in
      ap length (sym z) ∙ ap suc (place-long n l p q)

inside-long : (p : TablePart) (t u : Table) → place_inside p t ≡ Some u → length u.columns ≡ length t.columns
unfolding place_inside
inside-long (table k m) t u e = nothing_is e
inside-long (berth x) t u e =
    let y = (provided-some (vacant t.groups && (vacant t.columns && no_rows t.rows)) _ u e).1 in
    let (l, p, q) = map-some (λ (l : Places Class). table_of t.class t.max l t.groups t.columns t.rows) (place_in fresh x t.berths) u y in
    ap (λ (v : Table). length v.columns) (sym q)
inside-long (group x) t u e =
    let y = (provided-some (vacant t.columns && no_rows t.rows) _ u e).1 in
    let (l, p, q) = map-some (λ (l : Places Class). table_of t.class t.max t.berths l t.columns t.rows) (place_in fresh x t.groups) u y in
    ap (λ (v : Table). length v.columns) (sym q)
inside-long (column x) t u e =
    let y = (provided-some (no_rows t.rows) _ u e).1 in
    let (l, p, q) = map-some (λ (l : Places Column). table_of t.class t.max t.berths t.groups l t.rows) (place_in fresh x t.columns) u y in
    ap (λ (v : Table). length v.columns) (sym q) ∙ place-long fresh x.1 x.0 t.columns l p
inside-long (row k fs) t u e =
    let (l, p, q) = map-some (λ (l : Places Field). table_of t.class t.max t.berths t.groups t.columns (t.rows ++ (record { exist = k; fields = l } ∷ []))) (spread t.columns fs) u e in
    ap (λ (v : Table). length v.columns) (sym q)

table_kept_lem : (p : TablePart) (o m : Option Table) → place_table p o ≡ Some m → If TableEight o → If TableEight m
unfolding place_table
table_kept_lem (table k c) None m e h = let z : Some (table_of k c (nones 4) (nones 4) (nones 8) []) ≡ m = cc in rw (← z) (omega arith)
table_kept_lem (berth x) None m e h = nothing_is e
table_kept_lem (group x) None m e h = nothing_is e
table_kept_lem (column x) None m e h = nothing_is e
table_kept_lem (row k fs) None m e h = nothing_is e
table_kept_lem p (Some t) m e h =
    let (u, q, z) = map-some Some (place_inside p t) m e in
    rw (← z) (omega (arith, inside-long p t u q))

part-kept : (p : Part) (o m : Option Directory) → place_part p o ≡ Some m → If DirectoryEight o → If DirectoryEight m
unfolding place_part
part-kept (directory x k) None m e h = let z : Some (record { exist = x; class = k; tables = nones 2 }) ≡ m = cc in rw (← z) tt
part-kept (directory x k) (Some d) m e h = nothing_is e
part-kept (inside p) None m e h = nothing_is e
part-kept (inside p) (Some d) m e h =
    let (l, q, z) = map-some _ (place_in place_table p d.tables) m e in
    rw (← z) (place-keeps place_table p.1 TableEight (table_kept_lem p.1) p.0 d.tables l q h)

pub eight-kept : (r : Record) (s t : Store) → place r s ≡ Some t → Eight s → Eight t
unfolding place
eight-kept r s t e h = place-keeps place_part r.1 DirectoryEight (part-kept r.1) r.0 s t e h
