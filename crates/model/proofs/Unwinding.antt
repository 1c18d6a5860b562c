-- The three facts that carry a tape: a judgement is told by the client's view; a command of a client that C dominates changes what
-- C sees by what C sees; one of a client that C does not dominate changes nothing that C sees.
-- Assumes nothing.
use mathlib.Core.Path.{◌∙◌, ◌≡◌, ap, ap₂, refl, sym}
use mathlib.Core.Bool.{Bool, cond, false, true}
use mathlib.Core.List.{List}
use Rattle.std.specs.Prelude.{Some}
use Prim.Native.Nat.{ℕ}
use Rattle.model.specs.declared.Class.{Class}
use Rattle.model.specs.Places.{Places, alter, and_then, at, gather, map_o, on_places, present, when}
use Rattle.model.specs.Classes.{dominates}
use Rattle.model.specs.Parts.{Column, Directory, Row, Store, Table, table_at}
use Rattle.model.specs.View.{cut_directory, keep_table, open_table, seen, shut_table, view, view_column, view_columns, view_directory, view_groups, view_row, view_table, view_tables}
use Rattle.model.specs.Replies.{accepts}
use Rattle.model.specs.Commands.{Action, Command}
use Rattle.model.specs.Effects.{change, change_directory, change_table, new_rows}
use Rattle.model.specs.Verdicts.{changed, judge, judgement}
use Rattle.model.proofs.OrderLaws.{common_below, dominates_refl}
use Rattle.model.proofs.PlaceLaws.{alter_silent, alter_steady, emptied-alter, emptied-emptied}
use Rattle.model.proofs.ViewLaws.{directory-two, open_two, table-two, view_below}
use Rattle.model.proofs.RowLaws.{new_rows_silent, new_rows_steady}

module _ (C : Class) where
  open_again : (t : Table) → open_table C (open_table C t) ≡ open_table C t
  open_again t = open_two C C t ∙ ap (λ (k : Class). open_table k t) (common_below C C (dominates_refl C))

  table_again : (t : Table) → view_table C (view_table C t) ≡ view_table C t
  table_again t = table-two C C t ∙ ap (λ (k : Class). view_table k t) (common_below C C (dominates_refl C))

  directory_again : (d : Directory) → and_then (view_directory C d) (view_directory C) ≡ view_directory C d
  directory_again d = directory-two C C d ∙ ap (λ (k : Class). view_directory k d) (common_below C C (dominates_refl C))

-- ---- C dominates c
module _ (C c : Class) (above : dominates C c ≡ true) (a : Action) where
  rows_steady : (t : Table) → (open_table C (change_table c a t)).rows ≡ (open_table C (change_table c a (open_table C t))).rows
  unfolding open_table change_table view_columns view_column
  rows_steady t =
      new_rows_steady C c above (λ (k : Column). present (at k.group (view_groups C t.groups))) t.columns a t.rows
      ∙ ap (λ (x : Table). gather (view_row C x.columns) (new_rows c a (open_table C t).columns (open_table C t).rows)) (sym (open_again C t))

  table_steady : (t : Table) → view_table C (change_table c a t) ≡ view_table C (change_table c a (view_table C t))
  unfolding view_table open_table shut_table change_table
  table_steady t = go (dominates C t.class) refl
    where
      go : (b : Bool) → dominates C t.class ≡ b → view_table C (change_table c a t) ≡ view_table C (change_table c a (view_table C t))
      go true p =
          rw (p, p)
          (λ i. record {
            class = t.class;
            max = t.max;
            berths = (sym (open_again C t) i).berths;
            groups = (sym (open_again C t) i).groups;
            columns = (sym (open_again C t) i).columns;
            rows = rows_steady t i;
          })
      go false p = rw (p, p) (simp emptied-emptied)

  tables_steady : (k : Class) (n : ℕ) (l : Places Table)
      → view_tables C k (alter n (map_o (change_table c a)) l) ≡ view_tables C k (alter n (map_o (change_table c a)) (view_tables C k l))
  unfolding view_tables keep_table
  tables_steady k n l = go (dominates C k) refl
    where
      go : (b : Bool) → dominates C k ≡ b → view_tables C k (alter n (map_o (change_table c a)) l) ≡ view_tables C k (alter n (map_o (change_table c a)) (view_tables C k l))
      go true p = rw p (alter_steady (keep_table C) (change_table c a) (λ t. ap Some (table_again C t)) (λ t. ap Some (table_steady t)) n l)
      go false p = rw p (simp (emptied-alter, emptied-emptied))

  directory_steady : (n : ℕ) (d : Directory)
      → view_directory C (change_directory n (change_table c a) d) ≡ and_then (view_directory C d) (λ (x : Directory). view_directory C (change_directory n (change_table c a) x))
  unfolding view_directory cut_directory change_directory
  directory_steady n d = go (dominates C d.exist) refl
    where
      go : (b : Bool) → dominates C d.exist ≡ b
          → view_directory C (change_directory n (change_table c a) d) ≡ and_then (view_directory C d) (λ (x : Directory). view_directory C (change_directory n (change_table c a) x))
      go true p = rw (p, p) (ap (λ (l : Places Table). Some (record { exist = d.exist; class = d.class; tables = l })) (tables_steady d.class n d.tables))
      go false p = rw p

-- ---- C does not dominate c
module _ (C c : Class) (aside : dominates C c ≡ false) (a : Action) where
  table_silent : (t : Table) → view_table C (change_table c a t) ≡ view_table C t
  unfolding view_table open_table shut_table change_table
  table_silent t = ap (λ (l : List Row). cond (dominates C t.class) (with l) (shut_table C t)) (new_rows_silent C c aside (view_columns C t.groups t.columns) a t.columns t.rows)
    where
      with : List Row → Table
      with l =
          record {
            class = t.class;
            max = t.max;
            berths = on_places (seen C) t.berths;
            groups = view_groups C t.groups;
            columns = view_columns C t.groups t.columns;
            rows = l;
          }

  tables_silent : (k : Class) (n : ℕ) (l : Places Table) → view_tables C k (alter n (map_o (change_table c a)) l) ≡ view_tables C k l
  unfolding view_tables keep_table
  tables_silent k n l =
      ap₂ (λ (x y : Places Table). cond (dominates C k) x y)
      (alter_silent (keep_table C) (change_table c a) (λ t. ap Some (table_silent t)) n l) (emptied-alter (change_table c a) n l)

  directory_silent : (n : ℕ) (d : Directory) → view_directory C (change_directory n (change_table c a) d) ≡ view_directory C d
  unfolding view_directory cut_directory change_directory
  directory_silent n d =
      ap (λ (l : Places Table). when (dominates C d.exist) (record { exist = d.exist; class = d.class; tables = l })) (tables_silent d.class n d.tables)

-- ---- the store
module _ (C : Class) (k : Command) where
  change_steady : dominates C k.clearance ≡ true → (s : Store) → view C (change k s) ≡ view C (change k (view C s))
  unfolding view change
  change_steady above s =
      alter_steady (view_directory C) (change_directory k.table (change_table k.clearance k.action))
      (directory_again C) (directory_steady C k.clearance above k.action k.table) k.directory s

  change_silent : dominates C k.clearance ≡ false → (s : Store) → view C (change k s) ≡ view C s
  unfolding view change
  change_silent aside s =
      alter_silent (view_directory C) (change_directory k.table (change_table k.clearance k.action))
      (directory_silent C k.clearance aside k.action k.table) k.directory s

  -- stores that C cannot tell apart are judged alike by a client that C dominates, and C cannot tell them apart afterwards
  module _ (w room : ℕ) where
    pub same-judgement : dominates C k.clearance ≡ true → (s t : Store) → view C s ≡ view C t → judgement w room s k ≡ judgement w room t k
    unfolding judgement
    same-judgement above s t e =
        ap (λ (x : Store). judge w room k.clearance k.action (table_at k.directory k.table x))
        (sym (view_below C k.clearance above s) ∙ ap (view k.clearance) e ∙ view_below C k.clearance above t)

    pub changed_steady : dominates C k.clearance ≡ true → (s t : Store) → view C s ≡ view C t → view C (changed w room s k) ≡ view C (changed w room t k)
    unfolding changed
    changed_steady above s t e = rw (same-judgement above s t e) (go (accepts (judgement w room t k).reply))
      where
        go : (b : Bool) → view C (cond b (change k s) s) ≡ view C (cond b (change k t) t)
        go true = change_steady above s ∙ ap (λ (x : Store). view C (change k x)) e ∙ sym (change_steady above t)
        go false = e

    -- a command of a client that C does not dominate leaves what C sees
    pub changed_silent : dominates C k.clearance ≡ false → (s : Store) → view C (changed w room s k) ≡ view C s
    unfolding changed
    changed_silent aside s = go (accepts (judgement w room s k).reply)
      where
        go : (b : Bool) → view C (cond b (change k s) s) ≡ view C s
        go true = change_silent aside s
        go false = refl
