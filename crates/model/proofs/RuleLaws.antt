-- The rules of a store part by part, and that the view keeps them.
-- Assumes nothing.
use mathlib.Core.Path.{◌∙◌, ◌≡◌, ap, refl, sym}
use mathlib.Core.Bool.{Bool, ◌||◌, cond, false, false≢true, not, true}
use mathlib.Core.List.{List, [], ◌∷◌}
use Rattle.std.specs.Prelude.{Option, None, Some}
use Prim.Native.Nat.{◌≤◌, suc-le-suc, zero, ℕ}
use native.Mathlib.Nat.{le_refl, le-suc, le_trans}
use lib.Dec.{eqb}
use lib.ListN.{length}
use borrow.Author.Tests.{le-leb, leb-true}
use Rattle.model.specs.declared.Class.{Class}
use Rattle.model.specs.declared.Field.{Field}
use Rattle.model.specs.declared.Kind.{Kind}
use Rattle.model.specs.declared.Value.TheVariants.{Hidden}
use Rattle.model.specs.Places.{Places, all, all_in, and_then, any, at, emptied, gather, on_places, present, push, sure, tick, twice, when}
use Rattle.model.specs.Classes.{dominates, same}
use Rattle.model.specs.Values.{fits, hide, is_hidden, mark}
use Rattle.model.specs.Parts.{Column, Directory, Row, Store, Table}
use Rattle.model.specs.Rules.{berth_ok, column_ok, directory_ok, field_ok, fields_ok, in_berth, room_ok, row_ok, ruled, same_berth, table_ok, table_tests, value_ok}
use Rattle.model.specs.View.{cut, cut_directory, keep_table, open_table, seen, shut_table, view, view_column, view_columns, view_directory, view_field, view_fields, view_groups, view_row, view_table, view_tables}
use Rattle.model.proofs.Tests.{and-fst, and-map, and-snd, both, fails, not-map, or_map, or_right}
use Rattle.model.proofs.OrderLaws.{dominates_refl, same_eq}
use Rattle.model.proofs.PlaceLaws.{at-on_places}
use Rattle.model.proofs.Every.{facts, of_facts}
use Rattle.model.proofs.AllLaws.{all-gather, all_in-emptied, all_in-on_places, length-emptied, length-on_places, unless, unless-when}

-- ---- what the test of a table says, part by part
pub record TableRules (t : Table) : Type 0 where
  pub ordered : dominates t.max t.class ≡ true
  pub between : all_in (berth_ok t.class t.max) t.berths ≡ true
  pub apart : not (twice same_berth t.berths) ≡ true
  pub grouped : all_in (column_ok t.groups) t.columns ≡ true
  pub filled : all (row_ok t.berths t.columns) t.rows ≡ true
  pub roomy : all_in (room_ok t.rows) t.berths ≡ true
  pub berths4 : eqb (length t.berths) 4 ≡ true
  pub groups4 : eqb (length t.groups) 4 ≡ true
  pub columns8 : eqb (length t.columns) 8 ≡ true

pub table-rules : (t : Table) → table_ok t ≡ true → TableRules t
unfolding table_ok table_tests
table-rules t e =
    let f = facts (table_tests t) e in
    record {
      ordered = f.0;
      between = f.1.0;
      apart = f.1.1.0;
      grouped = f.1.1.1.0;
      filled = f.1.1.1.1.0;
      roomy = f.1.1.1.1.1.0;
      berths4 = f.1.1.1.1.1.1.0;
      groups4 = f.1.1.1.1.1.1.1.0;
      columns8 = f.1.1.1.1.1.1.1.1.0;
    }

pub table_ok_lem : (t : Table) → TableRules t → table_ok t ≡ true
unfolding table_ok table_tests
table_ok_lem t f =
    of_facts (table_tests t)
    (f.ordered, (f.between, (f.apart, (f.grouped, (f.filled, (f.roomy, (f.berths4, (f.groups4, (f.columns8, tt)))))))))

-- ---- counting
pub tick_le : (y : Bool) {m n : ℕ} → m ≤ n → tick y m ≤ tick y n
tick_le true h = suc-le-suc h
tick_le false h = h

pub le_tick : (y : Bool) (n : ℕ) → n ≤ tick y n
le_tick true n = le-suc n
le_tick false n = le_refl n

-- a berth that has no more rows than before still has at most 8
pub fewer_room : (rs fewer : List Row) (b : Class) → in_berth b fewer ≤ in_berth b rs → room_ok rs b ≡ true → room_ok fewer b ≡ true
unfolding room_ok
fewer_room rs fewer b h e = le-leb (in_berth b fewer) 8 (le_trans h (leb-true (in_berth b rs) 8 e))

-- ---- the view of each part
module _ (C : Class) where
  -- a berth or a group that stays passes as before
  pub seen-keeps : (p : Class → Bool) (b : Class) → p b ≡ true → unless p (seen C b) ≡ true
  unfolding seen
  seen-keeps p b e = unless-when p (dominates C b) b (λ h. e)

  seen-some : (b : Class) → dominates C b ≡ true → seen C b ≡ Some b
  unfolding seen
  seen-some b p = rw p

  -- two berths that stay have equal classes only where they had
  berth-same : (o o' : Option Class) → same_berth (and_then o (seen C)) (and_then o' (seen C)) ≡ true → same_berth o o' ≡ true
  unfolding same_berth seen
  berth-same None o' e = e
  berth-same (Some a) None e = absurd (false≢true (sym (gone (dominates C a)) ∙ e))
    where
      gone : (x : Bool) → same_berth (when x a) None ≡ false
      gone true = refl
      gone false = refl
  berth-same (Some a) (Some b) e = go (dominates C a) (dominates C b) e
    where
      go : (x y : Bool) → same_berth (when x a) (when y b) ≡ true → same a b ≡ true
      go true true h = h
      go true false h = absurd (false≢true h)
      go false y h = absurd (false≢true h)

  any_same : (o : Option Class) (l : Places Class) → any (same_berth (and_then o (seen C))) (on_places (seen C) l) ≡ true → any (same_berth o) l ≡ true
  any_same o [] e = e
  any_same o (o' ∷ l) e =
      or_map (same_berth (and_then o (seen C)) (and_then o' (seen C))) (any (same_berth (and_then o (seen C))) (on_places (seen C) l))
      (same_berth o o') (any (same_berth o) l)
      (berth-same o o') (any_same o l) e

  twice_same : (l : Places Class) → twice same_berth (on_places (seen C) l) ≡ true → twice same_berth l ≡ true
  twice_same [] e = e
  twice_same (o ∷ l) e =
      or_map (any (same_berth (and_then o (seen C))) (on_places (seen C) l)) (twice same_berth (on_places (seen C) l)) (any (same_berth o) l) (twice same_berth l)
      (any_same o l) (twice_same l) e

  -- the berth of a class that is dominated stays
  any-berth : (x : Class) → dominates C x ≡ true → (l : Places Class) → any (sure (same x)) l ≡ true → any (sure (same x)) (on_places (seen C) l) ≡ true
  any-berth x h [] e = e
  any-berth x h (o ∷ l) e =
      or_map (sure (same x) o) (any (sure (same x)) l) (sure (same x) (and_then o (seen C))) (any (sure (same x)) (on_places (seen C) l)) (one o) (any-berth x h l) e
    where
      one : (o : Option Class) → sure (same x) o ≡ true → sure (same x) (and_then o (seen C)) ≡ true
      one None e = e
      one (Some b) e = rw (seen-some b (rw (same_eq x b e) at h)) e

  -- a column that stays has its group still
  sure-seen : (d : Class → Bool) (o : Option Class) → sure d o ≡ true → present (and_then o (seen C)) ≡ true → sure d (and_then o (seen C)) ≡ true
  unfolding seen
  sure-seen d None e h = h
  sure-seen d (Some g) e h = go (dominates C g) h
    where
      go : (x : Bool) → present (when x g) ≡ true → sure d (when x g) ≡ true
      go true h = e
      go false h = h

  column-keeps : (gs : Places Class) (k : Column) → column_ok gs k ≡ true → unless (column_ok (view_groups C gs)) (view_column (view_groups C gs) k) ≡ true
  unfolding column_ok view_column view_groups
  column-keeps gs k e = go (present (at k.group (view_groups C gs))) refl
    where
      d : Class → Bool
      d g = dominates g k.default.class

      f : Bool
      f = fits k.kind k.default.value

      go : (b : Bool) → present (at k.group (view_groups C gs)) ≡ b → unless (column_ok (view_groups C gs)) (when b k) ≡ true
      go true p =
          both (sure d (at k.group (view_groups C gs))) f
          (rw (at-on_places (seen C)) (sure-seen d (at k.group gs) (and-fst (sure d (at k.group gs)) f e) (rw (at-on_places (seen C)) at p)))
          (and-snd (sure d (at k.group gs)) f e)
      go false p = refl

  value_keeps : (k : Kind) (f : Field) → value_ok k f.value ≡ true → value_ok k (hide C f).value ≡ true
  unfolding value_ok hide is_hidden mark
  value_keeps k f e = go (dominates C f.class)
    where
      go : (b : Bool) → (fits k (cond b f.value Hidden) || is_hidden (cond b f.value Hidden)) ≡ true
      go true = e
      go false = or_right (fits k Hidden) true refl

  -- p: which columns stay
  fields_keep : (p : Column → Bool) (ks : Places Column) (fs : Places Field) → fields_ok ks fs ≡ true
      → fields_ok (on_places (λ (k : Column). when (p k) k) ks) (view_fields C (on_places (λ (k : Column). when (p k) k) ks) fs) ≡ true
  unfolding fields_ok field_ok view_fields view_field
  fields_keep p [] [] e = refl
  fields_keep p [] (f ∷ fs) e = refl
  fields_keep p (k ∷ ks) [] e = e
  fields_keep p (k ∷ ks) (f ∷ fs) e = and-map (field_ok k f) (fields_ok ks fs) (field_ok (left k) (view_field C (left k) f)) _ (one k f) (fields_keep p ks fs) e
    where
      left : Option Column → Option Column
      left k = and_then k (λ (k : Column). when (p k) k)

      stays : (b : Bool) (k : Column) (f : Field) → value_ok k.kind f.value ≡ true → field_ok (when b k) (view_field C (when b k) (Some f)) ≡ true
      stays true k f e = value_keeps k.kind f e
      stays false k f e = refl

      one : (k : Option Column) (f : Option Field) → field_ok k f ≡ true → field_ok (left k) (view_field C (left k) f) ≡ true
      one None f e = refl
      one (Some k) None e = absurd (false≢true e)
      one (Some k) (Some f) e = stays (p k) k f e

  -- a berth has no more rows in the view, and as many where it stays
  rows_fewer : (b : Class) (ks : Places Column) (rs : List Row) → in_berth b (gather (view_row C ks) rs) ≤ in_berth b rs
  unfolding in_berth view_row cut
  rows_fewer b ks [] = le_refl zero
  rows_fewer b ks (r ∷ rs) = go (dominates C r.exist) (rows_fewer b ks rs)
    where
      go : (x : Bool) → in_berth b (gather (view_row C ks) rs) ≤ in_berth b rs
          → in_berth b (push (when x (cut C ks r)) (gather (view_row C ks) rs)) ≤ tick (same r.exist b) (in_berth b rs)
      go true ih = tick_le (same r.exist b) ih
      go false ih = le_trans ih (le_tick (same r.exist b) (in_berth b rs))

  pub rows_all : (b : Class) → dominates C b ≡ true → (ks : Places Column) (rs : List Row) → in_berth b (gather (view_row C ks) rs) ≡ in_berth b rs
  unfolding in_berth view_row cut
  rows_all b h ks [] = refl
  rows_all b h ks (r ∷ rs) = go (dominates C r.exist) refl (rows_all b h ks rs)
    where
      go : (x : Bool) → dominates C r.exist ≡ x → in_berth b (gather (view_row C ks) rs) ≡ in_berth b rs
          → in_berth b (push (when x (cut C ks r)) (gather (view_row C ks) rs)) ≡ tick (same r.exist b) (in_berth b rs)
      go true p ih = ap (tick (same r.exist b)) ih
      go false p ih = rw (fails (same r.exist b) (dominates C r.exist) (λ e. rw (same_eq r.exist b e) h) p) ih

  row_keeps : (bs : Places Class) (p : Column → Bool) (ks : Places Column) (r : Row) → row_ok bs ks r ≡ true
      → unless (row_ok (on_places (seen C) bs) (on_places (λ (k : Column). when (p k) k) ks)) (view_row C (on_places (λ (k : Column). when (p k) k) ks) r) ≡ true
  unfolding row_ok view_row cut
  row_keeps bs p ks r e = go (dominates C r.exist) refl
    where
      K : Places Column
      K = on_places (λ (k : Column). when (p k) k) ks

      go : (x : Bool) → dominates C r.exist ≡ x → unless (row_ok (on_places (seen C) bs) K) (when x (cut C K r)) ≡ true
      go true h =
          and-map (any (sure (same r.exist)) bs) (fields_ok ks r.fields)
          (any (sure (same r.exist)) (on_places (seen C) bs)) (fields_ok K (view_fields C K r.fields))
          (any-berth r.exist h bs) (fields_keep p ks r.fields) e
      go false h = refl

  open_keeps : (t : Table) → TableRules t → TableRules (open_table C t)
  unfolding open_table view_groups view_columns view_column
  open_keeps t f =
      record {
        ordered = f.ordered;
        between = all_in-on_places between between (seen C) (seen-keeps between) t.berths f.between;
        apart = not-map (twice same_berth t.berths) (twice same_berth (on_places (seen C) t.berths)) (twice_same t.berths) f.apart;
        grouped =
            all_in-on_places (column_ok t.groups) (column_ok (view_groups C t.groups)) (view_column (view_groups C t.groups))
            (column-keeps t.groups) t.columns f.grouped;
        filled =
            all-gather (row_ok t.berths t.columns) (row_ok (on_places (seen C) t.berths) K) (view_row C K)
            (row_keeps t.berths (λ (k : Column). present (at k.group (view_groups C t.groups))) t.columns) t.rows f.filled;
        roomy =
            all_in-on_places (room_ok t.rows) (room_ok rs) (seen C) (λ b h. seen-keeps (room_ok rs) b (fewer_room t.rows rs b (rows_fewer b K t.rows) h)) t.berths
            f.roomy;
        berths4 = rw length-on_places f.berths4;
        groups4 = rw length-on_places f.groups4;
        columns8 = rw length-on_places f.columns8;
      }
    where
      K : Places Column
      K = view_columns C t.groups t.columns

      rs : List Row
      rs = gather (view_row C K) t.rows

      between : Class → Bool
      between = berth_ok t.class t.max

  shut_keeps : (t : Table) → TableRules t → TableRules (shut_table C t)
  unfolding shut_table same_berth
  shut_keeps t f =
      record {
        ordered = dominates_refl t.class;
        between = all_in-emptied (berth_ok t.class t.class) t.berths;
        apart = none-twice t.berths;
        grouped = all_in-emptied (column_ok (emptied t.groups)) t.columns;
        filled = refl;
        roomy = all_in-emptied (room_ok []) t.berths;
        berths4 = rw length-emptied f.berths4;
        groups4 = rw length-emptied f.groups4;
        columns8 = rw length-emptied f.columns8;
      }
    where
      none_any : (l : Places Class) → any (same_berth None) l ≡ false
      none_any [] = refl
      none_any (o ∷ l) = none_any l

      none-twice : (l : Places Class) → not (twice same_berth (emptied l)) ≡ true
      none-twice [] = refl
      none-twice (o ∷ l) = rw (none_any (emptied l)) (none-twice l)

  table-keeps : (t : Table) → table_ok t ≡ true → table_ok (view_table C t) ≡ true
  unfolding view_table
  table-keeps t e = go (dominates C t.class)
    where
      go : (x : Bool) → table_ok (cond x (open_table C t) (shut_table C t)) ≡ true
      go true = table_ok_lem (open_table C t) (open_keeps t (table-rules t e))
      go false = table_ok_lem (shut_table C t) (shut_keeps t (table-rules t e))

  directory-keeps : (d : Directory) → directory_ok d ≡ true → unless directory_ok (view_directory C d) ≡ true
  unfolding directory_ok view_directory cut_directory view_tables keep_table
  directory-keeps d e = go (dominates C d.exist) (dominates C d.class)
    where
      l : Places Table
      l = d.tables

      go : (x y : Bool)
          → unless directory_ok (when x (record { exist = d.exist; class = d.class; tables = cond y (on_places (keep_table C) l) (emptied l) })) ≡ true
      go true true =
          and-map (eqb (length l) 2) (all_in table_ok l) (eqb (length (on_places (keep_table C) l)) 2) (all_in table_ok (on_places (keep_table C) l))
          (λ h. rw length-on_places h) (all_in-on_places table_ok table_ok (keep_table C) table-keeps l) e
      go true false =
          and-map (eqb (length l) 2) (all_in table_ok l) (eqb (length (emptied l)) 2) (all_in table_ok (emptied l))
          (λ h. rw length-emptied h) (λ h. all_in-emptied table_ok l) e
      go false y = refl

  pub view-ruled : (s : Store) → ruled s ≡ true → ruled (view C s) ≡ true
  unfolding ruled view
  view-ruled s e =
      and-map (eqb (length s) 4) (all_in directory_ok s) (eqb (length (on_places (view_directory C) s)) 4) (all_in directory_ok (on_places (view_directory C) s))
      (λ h. rw length-on_places h) (all_in-on_places directory_ok directory_ok (view_directory C) directory-keeps s) e
