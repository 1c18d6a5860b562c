-- The view at one clearance and then at another is the view at their common part.
-- Assumes nothing.
use mathlib.Core.Path.{◌∙◌, ◌≡◌, ap, ap₂, refl}
use mathlib.Core.Bool.{Bool, ◌&&◌, cond, false, true}
use mathlib.Core.List.{List, [], ◌∷◌}
use Rattle.std.specs.Prelude.{Option, None, Some}
use Rattle.model.specs.declared.Class.{Class}
use Rattle.model.specs.declared.Field.{Field}
use Rattle.model.specs.declared.Value.TheVariants.{Hidden}
use Rattle.model.specs.Places.{Places, and_then, at, gather, map_o, on_places, present, when}
use Rattle.model.specs.Classes.{common, dominates}
use Rattle.model.specs.Values.{hide}
use Rattle.model.specs.Parts.{Column, Directory, Row, Store, Table}
use Rattle.model.specs.View.{cut, cut_directory, keep_table, open_table, seen, shut_table, view, view_column, view_columns, view_directory, view_field, view_fields, view_groups, view_row, view_table, view_tables}
use Rattle.model.proofs.OrderLaws.{common_below, common_comm, dominates-common, dominates_refl}
use Rattle.model.proofs.PlaceLaws.{at-on_places, emptied-emptied, emptied-on_places, gather-two, on_places-emptied, on_places-two, present_then, when_then}

module _ (C c : Class) where
  seen-two : (k : Class) → and_then (seen C k) (seen c) ≡ seen (common C c) k
  unfolding seen
  seen-two k = rw dominates-common (when_then (dominates C k) (dominates c k) k k (seen c) refl)

  hide-two : (f : Field) → hide c (hide C f) ≡ hide (common C c) f
  unfolding hide
  hide-two f = rw dominates-common (λ i. record { class = f.class; value = both-hide (dominates C f.class) (dominates c f.class) i })
    where
      both-hide : (a b : Bool) → cond b (cond a f.value Hidden) Hidden ≡ cond (a && b) f.value Hidden
      both-hide true true = refl
      both-hide true false = refl
      both-hide false true = refl
      both-hide false false = refl

  groups-two : (gs : Places Class) → view_groups c (view_groups C gs) ≡ view_groups (common C c) gs
  unfolding view_groups
  groups-two gs = on_places-two (seen C) (seen c) (seen (common C c)) seen-two gs

  -- gs: the groups that stay at C
  column-two : (gs : Places Class) (k : Column) → and_then (view_column gs k) (view_column (view_groups c gs)) ≡ view_column (view_groups c gs) k
  unfolding view_column view_groups
  column-two gs k =
      when_then (present (at k.group gs)) (present (at k.group (view_groups c gs))) k k (view_column (view_groups c gs)) refl
      ∙ ap (λ (b : Bool). when b k) still
    where
      still : (present (at k.group gs) && present (at k.group (view_groups c gs))) ≡ present (at k.group (view_groups c gs))
      still = rw (at-on_places (seen c)) (present_then (at k.group gs) (seen c))

  columns-two : (gs : Places Class) (ks : Places Column) → view_columns c (view_groups C gs) (view_columns C gs ks) ≡ view_columns (common C c) gs ks
  unfolding view_columns
  columns-two gs ks =
      on_places-two (view_column (view_groups C gs)) (view_column (view_groups c (view_groups C gs))) (view_column (view_groups c (view_groups C gs))) (column-two (view_groups C gs)) ks
      ∙ rw groups-two

  -- ks: the columns that stay at C; h: which of them stay at c
  fields-two : (h : Column → Option Column) (ks : Places Column) (fs : Places Field)
      → view_fields c (on_places h ks) (view_fields C ks fs) ≡ view_fields (common C c) (on_places h ks) fs
  unfolding view_fields view_field
  fields-two h [] fs = refl
  fields-two h (k ∷ ks) [] = refl
  fields-two h (k ∷ ks) (f ∷ fs) = ap₂ (λ (o : Option Field) (l : Places Field). o ∷ l) (one k f) (fields-two h ks fs)
    where
      stays : (o : Option Column) (f : Option Field) → view_field c o (map_o (hide C) f) ≡ view_field (common C c) o f
      stays None f = refl
      stays (Some k) None = refl
      stays (Some k) (Some f) = ap Some (hide-two f)

      one : (k : Option Column) (f : Option Field) → view_field c (and_then k h) (view_field C k f) ≡ view_field (common C c) (and_then k h) f
      one None f = refl
      one (Some k) f = stays (h k) f

  row-two : (h : Column → Option Column) (ks : Places Column) (r : Row)
      → and_then (view_row C ks r) (view_row c (on_places h ks)) ≡ view_row (common C c) (on_places h ks) r
  unfolding view_row cut
  row-two h ks r =
      rw dominates-common
      (when_then (dominates C r.exist) (dominates c r.exist) (cut C ks r) (cut (common C c) (on_places h ks) r) (view_row c (on_places h ks))
      (ap (λ (fs : Places Field). when (dominates c r.exist) (record { exist = r.exist; fields = fs })) (fields-two h ks r.fields)))

  rows-two : (gs : Places Class) (ks : Places Column) (rs : List Row)
      → gather (view_row c (view_columns c (view_groups C gs) (view_columns C gs ks))) (gather (view_row C (view_columns C gs ks)) rs) ≡ gather (view_row (common C c) (view_columns (common C c) gs ks)) rs
  unfolding view_columns
  rows-two gs ks rs =
      gather-two (view_row C K) (view_row c (on_places h K)) (view_row (common C c) (on_places h K)) (row-two h K) rs
      ∙ ap (λ (l : Places Column). gather (view_row (common C c) l) rs) (columns-two gs ks)
    where
      K : Places Column
      K = view_columns C gs ks

      h : Column → Option Column
      h = view_column (view_groups c (view_groups C gs))

  pub open_two : (t : Table) → open_table c (open_table C t) ≡ open_table (common C c) t
  unfolding open_table
  open_two t =
      λ i. record {
        class = t.class;
        max = t.max;
        berths = on_places-two (seen C) (seen c) (seen (common C c)) seen-two t.berths i;
        groups = groups-two t.groups i;
        columns = columns-two t.groups t.columns i;
        rows = rows-two t.groups t.columns t.rows i;
      }

  pub table-two : (t : Table) → view_table c (view_table C t) ≡ view_table (common C c) t
  unfolding view_table open_table shut_table view_groups view_columns
  table-two t = go (dominates C t.class) (dominates c t.class) refl refl
    where
      go : (a b : Bool) → dominates C t.class ≡ a → dominates c t.class ≡ b → view_table c (view_table C t) ≡ view_table (common C c) t
      go true true p q = rw (dominates-common, p, q) (open_two t)
      go true false p q = rw (dominates-common, p, q) (simp emptied-on_places)
      go false true p q = rw (dominates-common, p, q) (simp on_places-emptied)
      go false false p q = rw (dominates-common, p, q) (simp emptied-emptied)

  pub tables-two : (k : Class) (l : Places Table) → view_tables c k (view_tables C k l) ≡ view_tables (common C c) k l
  unfolding view_tables keep_table
  tables-two k l = go (dominates C k) (dominates c k) refl refl
    where
      go : (a b : Bool) → dominates C k ≡ a → dominates c k ≡ b → view_tables c k (view_tables C k l) ≡ view_tables (common C c) k l
      go true true p q = rw (dominates-common, p, q) (on_places-two (keep_table C) (keep_table c) (keep_table (common C c)) (λ t. ap Some (table-two t)) l)
      go true false p q = rw (dominates-common, p, q) (simp emptied-on_places)
      go false true p q = rw (dominates-common, p, q) (simp on_places-emptied)
      go false false p q = rw (dominates-common, p, q) (simp emptied-emptied)

  pub directory-two : (d : Directory) → and_then (view_directory C d) (view_directory c) ≡ view_directory (common C c) d
  unfolding view_directory cut_directory
  directory-two d =
      rw dominates-common
      (when_then (dominates C d.exist) (dominates c d.exist) (cut_directory C d) (cut_directory (common C c) d) (view_directory c)
      (ap (λ (l : Places Table). when (dominates c d.exist) (record { exist = d.exist; class = d.class; tables = l })) (tables-two d.class d.tables)))

  -- M-110
  pub view-two : (s : Store) → view c (view C s) ≡ view (common C c) s
  unfolding view
  view-two s = on_places-two (view_directory C) (view_directory c) (view_directory (common C c)) directory-two s

  -- the view at a clearance tells the view at each that it dominates
  pub view_below : dominates C c ≡ true → (s : Store) → view c (view C s) ≡ view c s
  view_below h s = view-two s ∙ ap (λ (k : Class). view k s) (common_below C c h)

pub view_again : (C : Class) (s : Store) → view C (view C s) ≡ view C s
view_again C s = view_below C C (dominates_refl C) s

-- M-110: in either order
pub view_either : (a b : Class) (s : Store) → (view b (view a s) ≡ view (common a b) s) × (view a (view b s) ≡ view (common a b) s)
view_either a b s = (view-two a b s, view-two b a s ∙ ap (λ (k : Class). view k s) (common_comm b a))
