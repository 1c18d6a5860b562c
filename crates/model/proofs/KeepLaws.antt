-- A command keeps the rules: `CommandKeeps`.
-- Assumes nothing.
use mathlib.Core.Path.{◌∙◌, ◌≡◌, ap, refl}
use mathlib.Core.Bool.{Bool, cond, false, false≢true, true}
use mathlib.Core.List.{List, [], ◌++◌, ◌∷◌}
use Rattle.std.specs.Prelude.{Option, None, Some}
use Prim.Native.Nat.{◌<◌, ◌≤◌, suc, zero, ℕ}
use lib.Dec.{eqb, leb}
use lib.ListN.{length}
use borrow.Author.Tests.{le-leb, leb-false}
use Rattle.model.specs.declared.Class.{Class}
use Rattle.model.specs.declared.Field.{Field}
use Rattle.model.specs.declared.Kind.{Kind}
use Rattle.model.specs.Places.{Places, all, all_in, and_then, any, at, map_o, on_places, or_else, present, sure, tick, when}
use Rattle.model.specs.Classes.{dominates, same}
use Rattle.model.specs.Values.{fits, is_hidden}
use Rattle.model.specs.Parts.{Column, Directory, Row, Store, Table, table_at}
use Rattle.model.specs.Rules.{column_ok, directory_ok, field_ok, fields_ok, in_berth, room_ok, row_ok, ruled, rules, sound, table_ok, value_ok}
use Rattle.model.specs.View.{open_table, seen, view_column, view_columns, view_groups}
use Rattle.model.specs.Replies.{accepts}
use Rattle.model.specs.Commands.{Action, Change, Command, Given, Line, New, command, delete, insert, new_class, new_field, new_value, nobodys, read_line, select, unformed, update}
use Rattle.model.specs.Checks.{checks, misfit, new_fits, no_berth, no_column, own, table_checks}
use Rattle.model.specs.Effects.{amend, amend_row, change, change_directory, change_table, edit, entry_for, fill, given, new_row, new_rows, put, renew, renew_all, strike}
use Rattle.model.specs.Verdicts.{after, changed, judgement, line_store, outcome}
use Rattle.model.specs.Claims.{Accepts, CommandKeeps}
use Rattle.model.proofs.Tests.{and-map, and_right, and-snd, both, not-false, or_left, or_map}
use Rattle.model.proofs.OrderLaws.{dominates_refl, same_eq}
use Rattle.model.proofs.PlaceLaws.{at-on_places}
use Rattle.model.proofs.AllLaws.{all_append, all_neither, all_in-alter, all_in-at, all_in_imp, length-alter, or_else_passes, sure_passes, unless}
use Rattle.model.proofs.RuleLaws.{TableRules, fewer_room, rows_all, table_ok_lem, table-rules}
use Rattle.model.proofs.EditKeeps.{amend_fewer, edit_fewer, edit-rows, entry_passes, given_passes, renew_passes, strike_fewer, strike-rows}
use Rattle.model.proofs.SoundKeeps.{change-sound, command_sound, line_sound}
use Rattle.model.proofs.LineSound.{line_sound_lem}
use Rattle.model.proofs.Clear.{passed}
use Rattle.model.proofs.Found.{found}

-- ---- update
put-fits : (k : Kind) (n : New) (f : Field) → new_fits k n ≡ true → value_ok k f.value ≡ true → value_ok k (put n f).value ≡ true
unfolding put new_fits value_ok
put-fits k (new_class x) f h e = e
put-fits k (new_value v) f h e = or_left (fits k v) (is_hidden v) h
put-fits k (new_field g) f h e = or_left (fits k g.value) (is_hidden g.value) h

-- one field for each column, of its kind, where each entry found fits its column
renewed_fits : (c : Class) (mine : Bool) (g : ℕ → Option New) (ks : Places Column) (fs : Places Field)
    → ((j : ℕ) (k : Column) → at j ks ≡ Some k → unless (new_fits k.kind) (g j) ≡ true)
    → fields_ok ks fs ≡ true → fields_ok ks (renew_all c mine g fs) ≡ true
unfolding fields_ok field_ok renew_all
renewed_fits c mine g [] [] h e = e
renewed_fits c mine g [] (f ∷ fs) h e = absurd (false≢true e)
renewed_fits c mine g (k ∷ ks) [] h e = e
renewed_fits c mine g (k ∷ ks) (f ∷ fs) h e =
    and-map (field_ok k f) (fields_ok ks fs) (field_ok k (map_o (renew c mine (g zero)) f)) (fields_ok ks (renew_all c mine (λ (j : ℕ). g (suc j)) fs))
    (one k f (λ x p. h zero x p))
    (renewed_fits c mine (λ (j : ℕ). g (suc j)) ks fs (λ j. h (suc j))) e
  where
    each : (k : Kind) (f : Field) (o : Option New)
        → unless (new_fits k) o ≡ true → value_ok k f.value ≡ true → unless (λ (n : New). value_ok k (put n f).value) o ≡ true
    each k f None h e = refl
    each k f (Some n) h e = put-fits k n f h e

    one : (k : Option Column) (f : Option Field) → ((x : Column) → k ≡ Some x → unless (new_fits x.kind) (g zero) ≡ true)
        → field_ok k f ≡ true → field_ok k (map_o (renew c mine (g zero)) f) ≡ true
    one None None h e = e
    one None (Some f) h e = e
    one (Some k) None h e = e
    one (Some k) (Some f) h e = renew_passes (λ (f : Field). value_ok k.kind f.value) c mine (g zero) f (each k.kind f (g zero) (h k refl) e) e

-- ---- insert
fill-fits : (g : ℕ → Option Field) (ks : Places Column)
    → ((j : ℕ) (k : Column) → at j ks ≡ Some k → fits k.kind (or_else (g j) k.default).value ≡ true)
    → fields_ok ks (fill g ks) ≡ true
unfolding fields_ok field_ok value_ok fill
fill-fits g [] h = refl
fill-fits g (None ∷ ks) h = fill-fits (λ (j : ℕ). g (suc j)) ks (λ j. h (suc j))
fill-fits g (Some k ∷ ks) h =
    both (value_ok k.kind x.value) (fields_ok ks (fill (λ (j : ℕ). g (suc j)) ks)) (or_left (fits k.kind x.value) (is_hidden x.value) (h zero k refl))
    (fill-fits (λ (j : ℕ). g (suc j)) ks (λ j. h (suc j)))
  where
    x : Field
    x = or_else (g zero) k.default

in_berth-last : (b : Class) (r : Row) (rs : List Row) → in_berth b (rs ++ (r ∷ [])) ≡ tick (same r.exist b) (in_berth b rs)
unfolding in_berth
in_berth-last b r [] = refl
in_berth-last b r (x ∷ rs) = ap (tick (same x.exist b)) (in_berth-last b r rs) ∙ swap (same x.exist b) (same r.exist b) (in_berth b rs)
  where
    swap : (x y : Bool) (n : ℕ) → tick x (tick y n) ≡ tick y (tick x n)
    swap true true n = refl
    swap true false n = refl
    swap false true n = refl
    swap false false n = refl

-- ---- what the checks on the client's table say of the stored table
module _ (c : Class) (t : Table) where
  -- 6 and 9: a column that the client sees takes what is new
  abbrev fitting : ℕ → New → Bool
  fitting j n = sure (λ (k : Column). new_fits k.kind n) (at j (open_table c t).columns)

  takes : {A : Type 0} (j : A → ℕ) (n : A → New) (l : List A) → any (λ (a : A). no_column (open_table c t) (j a)) l ≡ false
      → any (λ (a : A). misfit (open_table c t) (j a) (n a)) l ≡ false → all (λ (a : A). fitting (j a) (n a)) l ≡ true
  unfolding no_column misfit
  takes j n =
      all_neither (λ (a : _). no_column (open_table c t) (j a)) (λ (a : _). misfit (open_table c t) (j a) (n a)) (λ (a : _). fitting (j a) (n a))
      (λ a. sure_passes (λ (k : Column). new_fits k.kind (n a)) (at (j a) (open_table c t).columns))

  -- and so does the stored column
  fits-stored : (i j : ℕ) (n : New) (k : Column) → at j t.columns ≡ Some k → i ≡ j → fitting i n ≡ true → new_fits k.kind n ≡ true
  unfolding open_table view_columns view_column
  fits-stored i j n k p x e = stays (at i t.columns) (rw x p) (rw (at-on_places (view_column (view_groups c t.groups))) at e)
    where
      q : Column → Bool
      q y = new_fits y.kind n

      one : (b : Bool) → sure q (when b k) ≡ true → q k ≡ true
      one true e = e
      one false e = absurd (false≢true e)

      stays : (o : Option Column) → o ≡ Some k → sure q (and_then o (view_column (view_groups c t.groups))) ≡ true → q k ≡ true
      stays o p e = one (present (at k.group (view_groups c t.groups))) (rw p at e)

  -- 10
  berth-stored : no_berth c (open_table c t) ≡ false → any (sure (same c)) t.berths ≡ true
  unfolding no_berth open_table seen
  berth-stored e = go t.berths (not-false (any (sure (same c)) (on_places (seen c) t.berths)) e)
    where
      was : (b : Class) (x : Bool) → sure (same c) (when x b) ≡ true → same c b ≡ true
      was b true h = h
      was b false h = absurd (false≢true h)

      one : (o : Option Class) → sure (same c) (and_then o (seen c)) ≡ true → sure (same c) o ≡ true
      one None h = h
      one (Some b) h = was b (dominates c b) h

      go : (l : Places Class) → any (sure (same c)) (on_places (seen c) l) ≡ true → any (sure (same c)) l ≡ true
      go [] h = h
      go (o ∷ l) h =
          or_map (sure (same c) (and_then o (seen c))) (any (sure (same c)) (on_places (seen c) l)) (sure (same c) o) (any (sure (same c)) l) (one o) (go l) h

  -- 11
  room-stored : leb 8 (in_berth c (open_table c t).rows) ≡ false → in_berth c t.rows < 8
  unfolding open_table
  room-stored e = leb-false 8 (in_berth c t.rows) (rw (rows_all c c (dominates_refl c)) at e)

-- ---- the table after an accepted command
module _ (c : Class) (t : Table) (f : TableRules t) where
  abbrev ok : Row → Bool
  ok = row_ok t.berths t.columns

  abbrev RowsOk : List Row → Type 0
  RowsOk rs = (all ok rs ≡ true) × (all_in (room_ok rs) t.berths ≡ true)

  -- no berth has more rows than before
  fewer_ok : (rs : List Row) → ((b : Class) → in_berth b rs ≤ in_berth b t.rows) → all_in (room_ok rs) t.berths ≡ true
  fewer_ok rs h = all_in_imp (room_ok t.rows) (room_ok rs) (λ b. fewer_room t.rows rs b (h b)) t.berths f.roomy

  insert-ok : (gs : List Given) → all (λ (g : Given). fitting c t g.column (new_field g.field)) gs ≡ true → no_berth c (open_table c t) ≡ false
      → leb 8 (in_berth c (open_table c t).rows) ≡ false → RowsOk (t.rows ++ (new_row c gs t.columns ∷ []))
  unfolding new_row new_fits row_ok column_ok room_ok
  insert-ok gs h9 h10 h11 = (
    all_append ok t.rows (new ∷ []) f.filled
        (both (ok new) true
        (both (any (sure (same c)) t.berths) (fields_ok t.columns new.fields) (berth-stored c t h10) (fill-fits (given gs) t.columns fit)) refl),
    all_in_imp (room_ok t.rows) (room_ok (t.rows ++ (new ∷ []))) room t.berths f.roomy,
  )
    where
      new : Row
      new = new_row c gs t.columns

      fit : (j : ℕ) (k : Column) → at j t.columns ≡ Some k → fits k.kind (or_else (given gs j) k.default).value ≡ true
      fit j k p =
          or_else_passes (λ (x : Field). fits k.kind x.value) (given gs j) k.default
          (given_passes j (λ (g : Given). fitting c t g.column (new_field g.field)) (λ (x : Field). fits k.kind x.value)
          (λ g x. fits-stored c t g.column j (new_field g.field) k p x) gs h9)
          (and-snd (sure (λ (g : Class). dominates g k.default.class) (at k.group t.groups)) (fits k.kind k.default.value)
          (all_in-at (column_ok t.groups) j t.columns f.grouped k p))

      room : (b : Class) → room_ok t.rows b ≡ true → room_ok (t.rows ++ (new ∷ [])) b ≡ true
      room b e = rw in_berth-last (go (same c b) refl)
        where
          go : (x : Bool) → same c b ≡ x → leb (tick x (in_berth b t.rows)) 8 ≡ true
          go true p = le-leb (suc (in_berth b t.rows)) 8 (rw (same_eq c b p) at (room-stored c t h11))
          go false p = e

  amend-ok : (es : List Change) → all (λ (e : Change). fitting c t e.column e.new) es ≡ true
      → (k : ℕ) (r : Row) → ok r ≡ true → unless ok (amend c es k r) ≡ true
  unfolding amend amend_row row_ok
  amend-ok es h i r e =
      and_right (any (sure (same r.exist)) t.berths) (fields_ok t.columns r.fields) (fields_ok t.columns (amend_row c es i r).fields)
      (renewed_fits c (own c r) (entry_for es i) t.columns r.fields
      (λ j k p. entry_passes i j (λ (e : Change). fitting c t e.column e.new) (new_fits k.kind)
      (λ e x. fits-stored c t e.column j e.new k p x) es h)) e

  rows_ok : (w room : ℕ) (a : Action) → Accepts w room c a t → RowsOk (new_rows c a t.columns t.rows)
  unfolding new_rows table_checks checks
  rows_ok w room (insert gs) e =
      let k = passed w room c (insert gs) (open_table c t) e in
      insert-ok gs (takes c t (λ (g : Given). g.column) (λ (g : Given). new_field g.field) gs k.1.1.0 k.1.1.1.1.0)
      k.1.1.1.1.1.0 k.1.1.1.1.1.1.0
  rows_ok w room (delete is) e = (
    edit-rows c (strike c is) ok (strike-rows c is ok) zero t.rows f.filled,
    fewer_ok (edit c (strike c is) zero t.rows) (λ b. edit_fewer c (strike c is) b (strike_fewer c is b) zero t.rows),
  )
  rows_ok w room (update es) e =
      let k = passed w room c (update es) (open_table c t) e in (
        edit-rows c (amend c es) ok (amend-ok es (takes c t (λ (e : Change). e.column) (λ (e : Change). e.new) es k.1.1.0 k.1.1.1.1.0))
            zero t.rows f.filled,
        fewer_ok (edit c (amend c es) zero t.rows) (λ b. edit_fewer c (amend c es) b (amend_fewer c es b) zero t.rows),
      )
  rows_ok w room (select q) e = (f.filled, f.roomy)

table_kept_lem : (w room : ℕ) (c : Class) (a : Action) (t : Table) → Accepts w room c a t → table_ok t ≡ true → table_ok (change_table c a t) ≡ true
unfolding change_table
table_kept_lem w room c a t e h =
    let f = table-rules t h in
    let r = rows_ok c t f w room a e in
    table_ok_lem (change_table c a t)
    (record {
      ordered = f.ordered;
      between = f.between;
      apart = f.apart;
      grouped = f.grouped;
      filled = r.0;
      roomy = r.1;
      berths4 = f.berths4;
      groups4 = f.groups4;
      columns8 = f.columns8;
    })

-- ---- the store
module _ (w room : ℕ) (s : Store) (k : Command) where
  change-ruled : accepts (judgement w room s k).reply ≡ true → ruled s ≡ true → ruled (change k s) ≡ true
  unfolding ruled change change_directory directory_ok table_at
  change-ruled e h =
      and-map (eqb (length s) 4) (all_in directory_ok s) (eqb (length (change k s)) 4) (all_in directory_ok (change k s)) (λ y. rw length-alter y)
      (all_in-alter directory_ok d k.directory s
      (λ x p. and-map (eqb (length x.tables) 2) (all_in table_ok x.tables) (eqb (length (d x).tables) 2) (all_in table_ok (d x).tables)
      (λ y. rw length-alter y)
      (all_in-alter table_ok g k.table x.tables (λ t q. table_kept_lem w room k.clearance k.action t (here x t p q))))) h
    where
      g : Table → Table
      g = change_table k.clearance k.action

      d : Directory → Directory
      d = change_directory k.table g

      here : (x : Directory) (t : Table) → at k.directory s ≡ Some x → at k.table x.tables ≡ Some t → Accepts w room k.clearance k.action t
      here x t p q =
          let (y, r, z) = found w room s k e in
          let u : table_at k.directory k.table s ≡ Some t = rw (p, q) in
          let v : y ≡ t = cc in
          rw v at z

  changed-keeps : command_sound w k ≡ true → rules w s ≡ true → rules w (changed w room s k) ≡ true
  unfolding changed rules
  changed-keeps x h = go (accepts (judgement w room s k).reply) refl
    where
      go : (b : Bool) → accepts (judgement w room s k).reply ≡ b → rules w (cond b (change k s) s) ≡ true
      go true e = and-map (ruled s) (sound w s) (ruled (change k s)) (sound w (change k s)) (change-ruled e) (change-sound w k s x) h
      go false e = h

-- ---- a line
pub after-keeps : (w room : ℕ) (s : Store) (l : Line) → line_sound w l ≡ true → rules w s ≡ true → rules w (after w room s l) ≡ true
unfolding after line_store
after-keeps w room s nobodys x h = rw h h
after-keeps w room s (unformed c) x h = rw h h
after-keeps w room s (command k) x h = rw h (changed-keeps w room s k x h)

pub command-keeps : CommandKeeps
unfolding outcome
command-keeps w s o h = after-keeps w (length o.room) s (read_line w o.line) (line_sound_lem w o.line) h
