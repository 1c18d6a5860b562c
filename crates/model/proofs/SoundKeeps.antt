-- A command whose own classes and values are among ours keeps a store sound.
-- Assumes nothing.
use mathlib.Core.Path.{◌≡◌, refl}
use mathlib.Core.Bool.{Bool, ◌&&◌, true}
use mathlib.Core.List.{List, [], ◌∷◌}
use Rattle.std.specs.Prelude.{Option, None, Some}
use Prim.Native.Nat.{suc, zero, ℕ}
use Rattle.model.specs.declared.Class.{Class}
use Rattle.model.specs.declared.Field.{Field}
use Rattle.model.specs.Places.{Places, all, all_in, alter, map_o, or_else}
use Rattle.model.specs.Classes.{class_sound}
use Rattle.model.specs.Values.{field_sound, value_sound}
use Rattle.model.specs.Parts.{Column, Row, Store, Table}
use Rattle.model.specs.Rules.{column_sound, directory_sound, row_sound, sound, table_sound}
use Rattle.model.specs.Commands.{Action, Change, Command, Given, Line, New, command, delete, insert, new_class, new_field, new_value, nobodys, select, unformed, update}
use Rattle.model.specs.Checks.{own}
use Rattle.model.specs.Effects.{amend, amend_row, change, change_directory, change_table, entry_for, fill, given, new_row, new_rows, put, renew, renew_all, strike}
use Rattle.model.proofs.Tests.{and-fst, and_right, and-snd, both}
use Rattle.model.proofs.AllLaws.{all_append, all_in-alter, all_in-first, all_in-more, all_in-rest, or_else_passes, unless}
use Rattle.model.proofs.SoundLaws.{SoundTable, directory-with, table_sound_lem, table_sounds_lem}
use Rattle.model.proofs.EditKeeps.{edit-rows, entry_passes, given_passes, renew_passes, strike-rows}

-- ---- what a command brings
module _ (w : ℕ) where
  abbrev pub new_sound : New → Bool
  new_sound (new_class k) = class_sound w k
  new_sound (new_value v) = value_sound w v
  new_sound (new_field f) = field_sound w f

  abbrev pub given_sound : Given → Bool
  given_sound g = field_sound w g.field

  abbrev pub entry_sound : Change → Bool
  entry_sound e = new_sound e.new

  abbrev pub action_sound : Action → Bool
  action_sound (insert gs) = all given_sound gs
  action_sound (delete is) = true
  action_sound (update es) = all entry_sound es
  action_sound (select q) = true

  abbrev pub command_sound : Command → Bool
  command_sound k = class_sound w k.clearance && action_sound k.action

  abbrev pub line_sound : Line → Bool
  line_sound nobodys = true
  line_sound (unformed c) = true
  line_sound (command k) = command_sound k

  -- ---- update
  put-sound : (n : New) (f : Field) → new_sound n ≡ true → field_sound w f ≡ true → field_sound w (put n f) ≡ true
  unfolding put field_sound
  put-sound (new_class k) f h e = both (class_sound w k) (value_sound w f.value) h (and-snd (class_sound w f.class) (value_sound w f.value) e)
  put-sound (new_value v) f h e = both (class_sound w f.class) (value_sound w v) (and-fst (class_sound w f.class) (value_sound w f.value) e) h
  put-sound (new_field g) f h e = h

  module _ (c : Class) where
    renew-sound : (mine : Bool) (o : Option New) (f : Option Field)
        → unless new_sound o ≡ true → unless (field_sound w) f ≡ true → unless (field_sound w) (map_o (renew c mine o) f) ≡ true
    renew-sound mine o None h e = refl
    renew-sound mine o (Some f) h e = renew_passes (field_sound w) c mine o f (go o h) e
      where
        go : (o : Option New) → unless new_sound o ≡ true → unless (λ (n : New). field_sound w (put n f)) o ≡ true
        go None h = refl
        go (Some n) h = put-sound n f h e

    renewed_sound : (mine : Bool) (g : ℕ → Option New) → ((j : ℕ) → unless new_sound (g j) ≡ true)
        → (fs : Places Field) → all_in (field_sound w) fs ≡ true → all_in (field_sound w) (renew_all c mine g fs) ≡ true
    unfolding renew_all
    renewed_sound mine g h [] e = refl
    renewed_sound mine g h (f ∷ fs) e =
        all_in-more (field_sound w) (map_o (renew c mine (g zero)) f) (renew_all c mine (λ (j : ℕ). g (suc j)) fs)
        (renew-sound mine (g zero) f (h zero) (all_in-first (field_sound w) f fs e))
        (renewed_sound mine (λ (j : ℕ). g (suc j)) (λ j. h (suc j)) fs (all_in-rest (field_sound w) f fs e))

    amend-sound : (es : List Change) → all entry_sound es ≡ true
        → (k : ℕ) (r : Row) → row_sound w r ≡ true → unless (row_sound w) (amend c es k r) ≡ true
    unfolding amend amend_row row_sound
    amend-sound es h k r e =
        and_right (class_sound w r.exist) (all_in (field_sound w) r.fields) (all_in (field_sound w) (amend_row c es k r).fields)
        (renewed_sound (own c r) (entry_for es k) (λ j. entry_passes k j entry_sound new_sound (λ e p x. x) es h) r.fields) e

    -- ---- insert
    fill-sound : (g : ℕ → Option Field) → ((j : ℕ) → unless (field_sound w) (g j) ≡ true)
        → (ks : Places Column) → all_in (column_sound w) ks ≡ true → all_in (field_sound w) (fill g ks) ≡ true
    unfolding fill column_sound
    fill-sound g h [] e = refl
    fill-sound g h (None ∷ ks) e = fill-sound (λ (j : ℕ). g (suc j)) (λ j. h (suc j)) ks e
    fill-sound g h (Some k ∷ ks) e =
        both (field_sound w (or_else (g zero) k.default)) (all_in (field_sound w) (fill (λ (j : ℕ). g (suc j)) ks))
        (or_else_passes (field_sound w) (g zero) k.default (h zero) (and-fst (column_sound w k) (all_in (column_sound w) ks) e))
        (fill-sound (λ (j : ℕ). g (suc j)) (λ j. h (suc j)) ks (and-snd (column_sound w k) (all_in (column_sound w) ks) e))

    -- ---- the table and the store
    rows-sound : (a : Action) (t : Table) → class_sound w c ≡ true → action_sound a ≡ true → SoundTable w t
        → all (row_sound w) (new_rows c a t.columns t.rows) ≡ true
    unfolding new_rows new_row row_sound
    rows-sound (insert gs) t x h f =
        all_append (row_sound w) t.rows (new_row c gs t.columns ∷ []) f.rows
        (both (row_sound w (new_row c gs t.columns)) true
        (both (class_sound w c) (all_in (field_sound w) (fill (given gs) t.columns)) x
        (fill-sound (given gs) (λ j. given_passes j given_sound (field_sound w) (λ g p x. x) gs h) t.columns f.columns))
        refl)
    rows-sound (delete is) t x h f = edit-rows c (strike c is) (row_sound w) (strike-rows c is (row_sound w)) zero t.rows f.rows
    rows-sound (update es) t x h f = edit-rows c (amend c es) (row_sound w) (amend-sound es h) zero t.rows f.rows
    rows-sound (select q) t x h f = f.rows

    change-table-sound : (a : Action) → class_sound w c ≡ true → action_sound a ≡ true
        → (t : Table) → table_sound w t ≡ true → table_sound w (change_table c a t) ≡ true
    unfolding change_table
    change-table-sound a x h t e =
        let f = table_sounds_lem w t e in
        table_sound_lem w (change_table c a t)
        (record { class = f.class; max = f.max; berths = f.berths; groups = f.groups; columns = f.columns; rows = rows-sound a t x h f })

  pub change-sound : (k : Command) (s : Store) → command_sound k ≡ true → sound w s ≡ true → sound w (change k s) ≡ true
  unfolding sound change change_directory
  change-sound k s h e =
      all_in-alter (directory_sound w) (change_directory k.table g) k.directory s
      (λ d p. directory-with w d (alter k.table (map_o g) d.tables)
      (all_in-alter (table_sound w) g k.table d.tables
      (λ t q. change-table-sound k.clearance k.action (and-fst own-class own-action h) (and-snd own-class own-action h) t))) e
    where
      g : Table → Table
      g = change_table k.clearance k.action

      own-class : Bool
      own-class = class_sound w k.clearance

      own-action : Bool
      own-action = action_sound k.action
