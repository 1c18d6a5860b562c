-- What an accepted command changes: the rows of the table that it names. 01, "Commands".
-- The rows that the client sees are numbered as the walk meets them, so no number is ever carried over to stored rows.
-- Each change is made only where the client may make it; for accepted commands that test is idle (Claims).
-- Assumes nothing.
use Rattle.std.specs.Prelude.{Bool, true, false, cond, ◌&&◌, ◌||◌, not, List, [], ◌∷◌, ◌++◌, ℕ, zero, suc, eqb}
use Rattle.std.specs.Prelude.{Option, None, Some}
use Rattle.model.specs.declared.Class.{Class}
use Rattle.model.specs.declared.Field.{Field}
use Rattle.model.specs.Places.{Places, when, or_else, map_o, alter, push, has, tick}
use Rattle.model.specs.Classes.{dominates}
use Rattle.model.specs.Parts.{Row, Column, Table, Directory, Store}
use Rattle.model.specs.Commands.{Given, New, new_class, new_value, new_field, Change, Action, insert, delete, update, select, Command}
use Rattle.model.specs.Checks.{own}

-- ---- the walk: rows that the client sees, numbered from k on, are kept, changed or removed by f; the others stay
unfoldable pub touch : Bool → (ℕ → Row → Option Row) → ℕ → Row → Option Row
touch true f k r = f k r
touch false f k r = Some r

unfoldable pub edit : Class → (ℕ → Row → Option Row) → ℕ → List Row → List Row
edit c f k [] = []
edit c f k (r ∷ rs) = push (touch (dominates c r.exist) f k r) (edit c f (tick (dominates c r.exist) k) rs)

-- ---- insert: the field given for a column, or else the column's default
unfoldable pub given : List Given → ℕ → Option Field
given [] j = None
given (g ∷ gs) j = cond (eqb g.column j) (Some g.field) (given gs j)

-- g: what is given at each number, from this one on
unfoldable pub fill : (ℕ → Option Field) → Places Column → Places Field
fill g [] = []
fill g (o ∷ ks) = map_o (λ (k : Column). or_else (g zero) k.default) o ∷ fill (λ (j : ℕ). g (suc j)) ks

unfoldable pub new_row : Class → List Given → Places Column → Row
new_row c gs ks = record { exist = c; fields = fill (given gs) ks }

-- ---- delete: the named rows go
unfoldable pub strike : Class → List ℕ → ℕ → Row → Option Row
strike c is k r = when (not (has k is && own c r)) r

-- ---- update: the named fields change
-- the entry for a row and a column
unfoldable pub entry_for : List Change → ℕ → ℕ → Option New
entry_for [] i j = None
entry_for (e ∷ es) i j = cond (eqb e.row i && eqb e.column j) (Some e.new) (entry_for es i j)

unfoldable pub put : New → Field → Field
put (new_class k) f = record { class = k; value = f.value }
put (new_value v) f = record { class = f.class; value = v }
put (new_field g) f = g

-- whether the client may change a field so; `mine`: the row is the client's
unfoldable pub lets : Class → Bool → New → Field → Bool
lets c mine (new_class k) f = mine && dominates c f.class
lets c mine (new_value v) f = mine || dominates f.class c
lets c mine (new_field g) f = mine

unfoldable pub renew : Class → Bool → Option New → Field → Field
renew c mine None f = f
renew c mine (Some n) f = cond (lets c mine n f) (put n f) f

-- g: the entry at each column number, from this one on
unfoldable pub renew_all : Class → Bool → (ℕ → Option New) → Places Field → Places Field
renew_all c mine g [] = []
renew_all c mine g (o ∷ fs) = map_o (renew c mine (g zero)) o ∷ renew_all c mine (λ (j : ℕ). g (suc j)) fs

unfoldable pub amend_row : Class → List Change → ℕ → Row → Row
amend_row c es k r = record { exist = r.exist; fields = renew_all c (own c r) (entry_for es k) r.fields }

unfoldable pub amend : Class → List Change → ℕ → Row → Option Row
amend c es k r = Some (amend_row c es k r)

-- ---- the rows of the table, by the verb
unfoldable pub new_rows : Class → Action → Places Column → List Row → List Row
new_rows c (insert gs) ks rs = rs ++ (new_row c gs ks ∷ [])
new_rows c (delete is) ks rs = edit c (strike c is) zero rs
new_rows c (update es) ks rs = edit c (amend c es) zero rs
new_rows c (select q) ks rs = rs

unfoldable pub change_table : Class → Action → Table → Table
change_table c a t =
    record {
      class = t.class;
      max = t.max;
      berths = t.berths;
      groups = t.groups;
      columns = t.columns;
      rows = new_rows c a t.columns t.rows;
    }

unfoldable pub change_directory : ℕ → (Table → Table) → Directory → Directory
change_directory n f d = record { exist = d.exist; class = d.class; tables = alter n (map_o f) d.tables }

unfoldable pub change : Command → Store → Store
change k s = alter k.directory (map_o (change_directory k.table (change_table k.clearance k.action))) s
