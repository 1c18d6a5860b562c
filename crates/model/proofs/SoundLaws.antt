-- Each class and value of a store is one of ours: that the view keeps this, and so all the rules (`ViewKeeps`).
-- Assumes nothing.
use mathlib.Core.Path.{◌≡◌, refl}
use mathlib.Core.Bool.{Bool, cond, false, true}
use mathlib.Core.List.{[], ◌∷◌}
use Rattle.std.specs.Prelude.{Option, None, Some}
use Prim.Native.Nat.{ℕ}
use Rattle.model.specs.declared.Class.{Class}
use Rattle.model.specs.declared.Field.{Field}
use Rattle.model.specs.declared.Value.TheVariants.{Hidden}
use Rattle.model.specs.Places.{Places, all, all_in, at, emptied, on_places, present}
use Rattle.model.specs.Classes.{class_sound, dominates}
use Rattle.model.specs.Values.{field_sound, hide, value_sound}
use Rattle.model.specs.Parts.{Column, Directory, Row, Store, Table}
use Rattle.model.specs.Rules.{column_sound, directory_sound, row_sound, ruled, rules, sound, table_sound, table_sounds}
use Rattle.model.specs.View.{cut, cut_directory, keep_table, open_table, seen, shut_table, view, view_column, view_columns, view_directory, view_field, view_fields, view_groups, view_row, view_table, view_tables}
use Rattle.model.specs.Claims.{ViewKeeps}
use Rattle.model.proofs.Tests.{and-map, and_right}
use Rattle.model.proofs.Every.{facts, of_facts}
use Rattle.model.proofs.AllLaws.{all-gather, all_in-emptied, all_in-first, all_in-more, all_in-on_places, all_in-rest, unless, unless-when}
use Rattle.model.proofs.RuleLaws.{seen-keeps, view-ruled}

-- ---- what the test of a table says, part by part
pub record SoundTable (w : ℕ) (t : Table) : Type 0 where
  pub class : class_sound w t.class ≡ true
  pub max : class_sound w t.max ≡ true
  pub berths : all_in (class_sound w) t.berths ≡ true
  pub groups : all_in (class_sound w) t.groups ≡ true
  pub columns : all_in (column_sound w) t.columns ≡ true
  pub rows : all (row_sound w) t.rows ≡ true

module _ (w : ℕ) where
  pub table_sounds_lem : (t : Table) → table_sound w t ≡ true → SoundTable w t
  unfolding table_sound table_sounds
  table_sounds_lem t e =
      let f = facts (table_sounds w t) e in
      record { class = f.0; max = f.1.0; berths = f.1.1.0; groups = f.1.1.1.0; columns = f.1.1.1.1.0; rows = f.1.1.1.1.1.0 }

  pub table_sound_lem : (t : Table) → SoundTable w t → table_sound w t ≡ true
  unfolding table_sound table_sounds
  table_sound_lem t f = of_facts (table_sounds w t) (f.class, (f.max, (f.berths, (f.groups, (f.columns, (f.rows, tt))))))

  -- a directory with sound tables in the place of its own
  pub directory-with : (d : Directory) (l : Places Table) → (all_in (table_sound w) d.tables ≡ true → all_in (table_sound w) l ≡ true)
      → directory_sound w d ≡ true → directory_sound w (record { exist = d.exist; class = d.class; tables = l }) ≡ true
  unfolding directory_sound
  directory-with d l h e =
      let f = facts (class_sound w d.exist ∷ class_sound w d.class ∷ all_in (table_sound w) d.tables ∷ []) e in
      of_facts (class_sound w d.exist ∷ class_sound w d.class ∷ all_in (table_sound w) l ∷ []) (f.0, (f.1.0, (h f.1.1.0, tt)))

-- ---- the view of each part
module _ (w : ℕ) (C : Class) where
  hide-sound : (f : Field) → field_sound w f ≡ true → field_sound w (hide C f) ≡ true
  unfolding field_sound hide value_sound
  hide-sound f e = and_right (class_sound w f.class) (value_sound w f.value) (value_sound w (hide C f).value) (go (dominates C f.class)) e
    where
      go : (b : Bool) → value_sound w f.value ≡ true → value_sound w (cond b f.value Hidden) ≡ true
      go true h = h
      go false h = refl

  field_sound_lem : (k : Option Column) (f : Option Field) → unless (field_sound w) f ≡ true → unless (field_sound w) (view_field C k f) ≡ true
  unfolding view_field
  field_sound_lem None f e = refl
  field_sound_lem (Some k) None e = refl
  field_sound_lem (Some k) (Some f) e = hide-sound f e

  fields-sound : (ks : Places Column) (fs : Places Field) → all_in (field_sound w) fs ≡ true → all_in (field_sound w) (view_fields C ks fs) ≡ true
  unfolding view_fields
  fields-sound [] fs e = refl
  fields-sound (k ∷ ks) [] e = refl
  fields-sound (k ∷ ks) (f ∷ fs) e =
      all_in-more (field_sound w) (view_field C k f) (view_fields C ks fs)
      (field_sound_lem k f (all_in-first (field_sound w) f fs e)) (fields-sound ks fs (all_in-rest (field_sound w) f fs e))

  row_sound_lem : (ks : Places Column) (r : Row) → row_sound w r ≡ true → unless (row_sound w) (view_row C ks r) ≡ true
  unfolding row_sound view_row cut
  row_sound_lem ks r e =
      unless-when (row_sound w) (dominates C r.exist) (cut C ks r)
      (λ h. and_right (class_sound w r.exist) (all_in (field_sound w) r.fields) (all_in (field_sound w) (view_fields C ks r.fields)) (fields-sound ks r.fields) e)

  column_sound_lem : (gs : Places Class) (k : Column) → column_sound w k ≡ true → unless (column_sound w) (view_column gs k) ≡ true
  unfolding view_column
  column_sound_lem gs k e = unless-when (column_sound w) (present (at k.group gs)) k (λ h. e)

  open_sound : (t : Table) → SoundTable w t → SoundTable w (open_table C t)
  unfolding open_table view_groups view_columns
  open_sound t f =
      record {
        class = f.class;
        max = f.max;
        berths = all_in-on_places (class_sound w) (class_sound w) (seen C) (seen-keeps C (class_sound w)) t.berths f.berths;
        groups = all_in-on_places (class_sound w) (class_sound w) (seen C) (seen-keeps C (class_sound w)) t.groups f.groups;
        columns = all_in-on_places (column_sound w) (column_sound w) (view_column G) (column_sound_lem G) t.columns f.columns;
        rows = all-gather (row_sound w) (row_sound w) (view_row C K) (row_sound_lem K) t.rows f.rows;
      }
    where
      G : Places Class
      G = view_groups C t.groups

      K : Places Column
      K = view_columns C t.groups t.columns

  shut_sound : (t : Table) → SoundTable w t → SoundTable w (shut_table C t)
  unfolding shut_table
  shut_sound t f =
      record {
        class = f.class;
        max = f.class;
        berths = all_in-emptied (class_sound w) t.berths;
        groups = all_in-emptied (class_sound w) t.groups;
        columns = all_in-emptied (column_sound w) t.columns;
        rows = refl;
      }

  kept-sound : (t : Table) → table_sound w t ≡ true → unless (table_sound w) (keep_table C t) ≡ true
  unfolding keep_table view_table
  kept-sound t e = go (dominates C t.class)
    where
      go : (b : Bool) → table_sound w (cond b (open_table C t) (shut_table C t)) ≡ true
      go true = table_sound_lem w (open_table C t) (open_sound t (table_sounds_lem w t e))
      go false = table_sound_lem w (shut_table C t) (shut_sound t (table_sounds_lem w t e))

  tables-sound : (k : Class) (l : Places Table) → all_in (table_sound w) l ≡ true → all_in (table_sound w) (view_tables C k l) ≡ true
  unfolding view_tables
  tables-sound k l e = go (dominates C k)
    where
      go : (b : Bool) → all_in (table_sound w) (cond b (on_places (keep_table C) l) (emptied l)) ≡ true
      go true = all_in-on_places (table_sound w) (table_sound w) (keep_table C) kept-sound l e
      go false = all_in-emptied (table_sound w) l

  directory_sound_lem : (d : Directory) → directory_sound w d ≡ true → unless (directory_sound w) (view_directory C d) ≡ true
  unfolding view_directory cut_directory
  directory_sound_lem d e =
      unless-when (directory_sound w) (dominates C d.exist) (cut_directory C d)
      (λ h. directory-with w d (view_tables C d.class d.tables) (tables-sound d.class d.tables) e)

  view-sound : (s : Store) → sound w s ≡ true → sound w (view C s) ≡ true
  unfolding sound view
  view-sound s e = all_in-on_places (directory_sound w) (directory_sound w) (view_directory C) directory_sound_lem s e

pub view-keeps : ViewKeeps
unfolding rules
view-keeps w c s e = and-map (ruled s) (sound w s) (ruled (view c s)) (sound w (view c s)) (view-ruled c s) (view-sound w c s) e
