-- A table that keeps the rules has at most 8 rows for each of its berths: 32 rows.
-- Assumes nothing.
use mathlib.Core.Path.{◌≡◌, refl, sym}
use mathlib.Core.Bool.{Bool, false, true}
use mathlib.Core.List.{List, [], ◌∷◌}
use Rattle.std.specs.Prelude.{None, Some}
use Prim.Native.Nat.{◌*◌, ◌+◌, ◌≤◌, suc, ℕ}
use native.Mathlib.Nat.{le_trans}
use native.Mathlib.Omega.{arith}
use lib.ListN.{length}
use borrow.Author.Tests.{eqb-true, leb-true}
use Rattle.model.specs.declared.Class.{Class}
use Rattle.model.specs.Places.{Places, all, all_in, any, sure, tick}
use Rattle.model.specs.Classes.{same}
use Rattle.model.specs.Parts.{Column, Row, Table}
use Rattle.model.specs.Rules.{fields_ok, in_berth, room_ok, row_ok, table_ok}
use Rattle.model.proofs.Tests.{and-fst, and-snd, not-both}
use Rattle.model.proofs.RuleLaws.{le_tick, table-rules}

-- the rows of all berths together
total : Places Class → List Row → ℕ
total [] rs = 0
total (None ∷ bs) rs = total bs rs
total (Some b ∷ bs) rs = in_berth b rs + total bs rs

total-more : (r : Row) (rs : List Row) (bs : Places Class) → total bs rs ≤ total bs (r ∷ rs)
unfolding total in_berth
total-more r rs [] = omega arith
total-more r rs (None ∷ bs) = total-more r rs bs
total-more r rs (Some b ∷ bs) = omega (arith, total-more r rs bs, le_tick (same r.exist b) (in_berth b rs))

total-row : (r : Row) (rs : List Row) (bs : Places Class) → any (sure (same r.exist)) bs ≡ true → suc (total bs rs) ≤ total bs (r ∷ rs)
unfolding total in_berth
total-row r rs [] e = not-both true refl (sym e)
total-row r rs (None ∷ bs) e = total-row r rs bs e
total-row r rs (Some b ∷ bs) e = go (same r.exist b) refl (λ f. total-row r rs bs f)
  where
    go : (y : Bool) → same r.exist b ≡ y → (any (sure (same r.exist)) bs ≡ true → suc (total bs rs) ≤ total bs (r ∷ rs))
        → suc (in_berth b rs + total bs rs) ≤ tick (same r.exist b) (in_berth b rs) + total bs (r ∷ rs)
    go true p ih = rw p (omega (arith, total-more r rs bs))
    go false p ih = rw p (omega (arith, ih (rw p at e)))

all_counted : (bs : Places Class) (ks : Places Column) (rs : List Row) → all (row_ok bs ks) rs ≡ true → length rs ≤ total bs rs
unfolding row_ok
all_counted bs ks [] e = omega arith
all_counted bs ks (r ∷ rs) e =
    omega (
      arith,
      all_counted bs ks rs (and-snd (row_ok bs ks r) (all (row_ok bs ks) rs) e),
      total-row r rs bs (and-fst (any (sure (same r.exist)) bs) (fields_ok ks r.fields) (and-fst (row_ok bs ks r) (all (row_ok bs ks) rs) e)),
    )

total_8 : (rs : List Row) (bs : Places Class) → all_in (room_ok rs) bs ≡ true → total bs rs ≤ 8 * length bs
unfolding total room_ok
total_8 rs [] e = omega arith
total_8 rs (None ∷ bs) e = omega (arith, total_8 rs bs e)
total_8 rs (Some b ∷ bs) e =
    omega (arith, total_8 rs bs (and-snd (room_ok rs b) (all_in (room_ok rs) bs) e), leb-true (in_berth b rs) 8 (and-fst (room_ok rs b) (all_in (room_ok rs) bs) e))

-- 8 rows for each berth
pub at_most_8_each : (t : Table) → table_ok t ≡ true → length t.rows ≤ 8 * length t.berths
at_most_8_each t e =
    let f = table-rules t e in
    le_trans (all_counted t.berths t.columns t.rows f.filled) (total_8 t.rows t.berths f.roomy)

pub at_most_32 : (t : Table) → table_ok t ≡ true → length t.rows ≤ 32
at_most_32 t e = omega (arith, at_most_8_each t e, eqb-true (length t.berths) 4 (table-rules t e).berths4)
