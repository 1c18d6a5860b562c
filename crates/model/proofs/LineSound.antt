-- The classes and values of a command that was read are among ours.
-- Assumes nothing.
use mathlib.Core.Path.{◌∙◌, ◌≡◌, ap, refl}
use mathlib.Core.Bool.{Bool, cond, false, not, true}
use mathlib.Core.List.{List, [], ◌∷◌}
use Rattle.std.specs.Prelude.{Option, None, Some}
use Prim.Native.Nat.{ℕ}
use lib.Dec.{leb}
use lib.ListN.{length}
use Rattle.model.specs.declared.Class.{Class}
use Rattle.model.specs.declared.Value.{Value}
use Rattle.model.specs.Places.{all, and_then, map_o, when}
use Rattle.model.specs.Classes.{class_sound}
use Rattle.model.specs.Values.{field_sound, is_hidden, value_sound}
use Rattle.model.specs.Numbers.{Bytes, bytes, read_dec}
use Rattle.model.specs.Lines.{fields_of, is_text}
use Rattle.model.specs.Texts.{read_class, read_letter, read_value}
use Rattle.model.specs.Commands.{Action, Change, Command, Given, I, New, S, U, Verb, X, at_most, delete, formed, insert, new_class, new_field, new_value, opened, read_action, read_changes, read_command, read_condition, read_givens, read_line, read_new, read_parts, read_plain, read_rows, select, unformed, update, verbs}
use Rattle.model.proofs.Tests.{both}
use Rattle.model.proofs.OptionLaws.{map-some, nothing_is, then_some}
use Rattle.model.proofs.TextLaws.{class-read-sound, value-read-sound}
use Rattle.model.proofs.SoundKeeps.{action_sound, command_sound, entry_sound, given_sound, line_sound, new_sound}

when-some : {A : Type 0} (b : Bool) (a x : A) → when b a ≡ Some x → a ≡ x
when-some true a x e = cc
when-some false a x e = nothing_is e

module _ (w : ℕ) where
  plain-sound : (l : Bytes) (v : Value) → read_plain w l ≡ Some v → value_sound w v ≡ true
  unfolding read_plain
  plain-sound l v e =
      let (x, p, q) = then_some (read_value w l) _ v e in
      rw (when-some (not (is_hidden x)) x v q) at (value-read-sound w l x p)

  field-read : (k v : Bytes) (x : Class) (y : Value) → read_class w k ≡ Some x → read_plain w v ≡ Some y
      → field_sound w (record { class = x; value = y }) ≡ true
  unfolding field_sound
  field-read k v x y p q = both (class_sound w x) (value_sound w y) (class-read-sound w k x p) (plain-sound v y q)

  givens_sound : (l : List Bytes) (gs : List Given) → read_givens w l ≡ Some gs → all (given_sound w) gs ≡ true
  unfolding read_givens
  givens_sound [] gs e = let z : [] ≡ gs = cc in rw (← z)
  givens_sound (c ∷ []) gs e = nothing_is e
  givens_sound (c ∷ k ∷ []) gs e = nothing_is e
  givens_sound (c ∷ k ∷ v ∷ l) gs e =
      let (n, p, e₁) = then_some (read_dec 7 c) _ gs e in
      let (x, q, e₂) = then_some (read_class w k) _ gs e₁ in
      let (y, r, e₃) = then_some (read_plain w v) _ gs e₂ in
      let (hs, u, e₄) = then_some (read_givens w l) _ gs e₃ in
      let z : record { column = n; field = record { class = x; value = y } } ∷ hs ≡ gs = cc in
      rw (← z) (both (field_sound w (record { class = x; value = y })) (all (given_sound w) hs) (field-read k v x y q r) (givens_sound l hs u))

  new_sound_lem : (k v : Bytes) (n : New) → read_new w k v ≡ Some n → new_sound w n ≡ true
  unfolding read_new
  new_sound_lem k v n e = go (is_text k (bytes "=")) e
    where
      field_of : Class → Value → New
      field_of x y = new_field (record { class = x; value = y })

      classed : (x : Class) → read_class w k ≡ Some x → (b : Bool) → cond b (Some (new_class x)) (map_o (field_of x) (read_plain w v)) ≡ Some n → new_sound w n ≡ true
      classed x p true h = let z : new_class x ≡ n = cc in rw (← z) (class-read-sound w k x p)
      classed x p false h = let (y, q, z) = map-some (field_of x) (read_plain w v) n h in rw (← z) (field-read k v x y p q)

      go : (b : Bool)
          → cond b (map_o new_value (read_plain w v))
          (and_then (read_class w k) (λ (x : Class). cond (is_text v (bytes "=")) (Some (new_class x)) (map_o (field_of x) (read_plain w v))))
          ≡ Some n
          → new_sound w n ≡ true
      go true h = let (y, q, z) = map-some new_value (read_plain w v) n h in rw (← z) (plain-sound v y q)
      go false h = let (x, p, q) = then_some (read_class w k) _ n h in classed x p (is_text v (bytes "=")) q

  changes-sound : (l : List Bytes) (es : List Change) → read_changes w l ≡ Some es → all (entry_sound w) es ≡ true
  unfolding read_changes
  changes-sound [] es e = let z : [] ≡ es = cc in rw (← z)
  changes-sound (r ∷ []) es e = nothing_is e
  changes-sound (r ∷ c ∷ []) es e = nothing_is e
  changes-sound (r ∷ c ∷ k ∷ []) es e = nothing_is e
  changes-sound (r ∷ c ∷ k ∷ v ∷ l) es e =
      let (i, p, e₁) = then_some (read_dec 31 r) _ es e in
      let (j, q, e₂) = then_some (read_dec 7 c) _ es e₁ in
      let (n, u, e₃) = then_some (read_new w k v) _ es e₂ in
      let (fs, x, e₄) = then_some (read_changes w l) _ es e₃ in
      let z : record { row = i; column = j; new = n } ∷ fs ≡ es = cc in
      rw (← z) (both (new_sound w n) (all (entry_sound w) fs) (new_sound_lem k v n u) (changes-sound l fs x))

  -- a list that was let pass is the one that was read
  passing : {A : Type 0} (limit : ℕ) (o : Option (List A)) (l : List A) → and_then o (at_most w limit) ≡ Some l → o ≡ Some l
  passing limit o l e =
      let (m, p, q) = then_some o _ l e in
      p ∙ ap Some (when-some (leb (length m) limit) m l q)

  action_sound_lem : (v : Verb) (l : List Bytes) (a : Action) → read_action w v l ≡ Some a → action_sound w a ≡ true
  unfolding read_action
  action_sound_lem I l a e =
      let (gs, p, z) = map-some insert (and_then (read_givens w l) (at_most w 8)) a e in
      rw (← z) (givens_sound l gs (passing 8 (read_givens w l) gs p))
  action_sound_lem X l a e = let (is, p, z) = map-some delete (and_then (read_rows w l) (at_most w 32)) a e in rw (← z)
  action_sound_lem U l a e =
      let (es, p, z) = map-some update (and_then (read_changes w l) (at_most w 32)) a e in
      rw (← z) (changes-sound l es (passing 32 (read_changes w l) es p))
  action_sound_lem S l a e = let (q, p, z) = map-some select (read_condition w l) a e in rw (← z)

  command_sound_lem : (k : Class) (l : List Bytes) (x : Command) → class_sound w k ≡ true → read_command w k l ≡ Some x → command_sound w x ≡ true
  unfolding read_command
  command_sound_lem k [] x h e = nothing_is e
  command_sound_lem k (v ∷ []) x h e = nothing_is e
  command_sound_lem k (v ∷ d ∷ []) x h e = nothing_is e
  command_sound_lem k (v ∷ d ∷ t ∷ l) x h e =
      let (y, p, e₁) = then_some (read_letter verbs v) _ x e in
      let (i, q, e₂) = then_some (read_dec 3 d) _ x e₁ in
      let (j, r, e₃) = then_some (read_dec 1 t) _ x e₂ in
      let (a, u, e₄) = then_some (read_action w y l) _ x e₃ in
      let z : record { clearance = k; directory = i; table = j; action = a } ≡ x = cc in
      rw (← z) (both (class_sound w k) (action_sound w a) h (action_sound_lem y l a u))

  parts-sound : (short : Bool) (l : List Bytes) → line_sound w (read_parts w short l) ≡ true
  unfolding read_parts
  parts-sound short [] = refl
  parts-sound short (k ∷ l) = go (read_class w k) refl short
    where
      told : (x : Class) (o : Option Command) → class_sound w x ≡ true → read_command w x l ≡ o → line_sound w (formed w x o) ≡ true
      told x None h e = refl
      told x (Some y) h e = command_sound_lem x l y h e

      go : (o : Option Class) → read_class w k ≡ o → (short : Bool)
          → line_sound w (opened w o (λ (x : Class). cond short (formed w x (read_command w x l)) (unformed x))) ≡ true
      go None e short = refl
      go (Some x) e true = told x (read_command w x l) (class-read-sound w k x e) refl
      go (Some x) e false = refl

  pub line_sound_lem : (l : Bytes) → line_sound w (read_line w l) ≡ true
  unfolding read_line
  line_sound_lem l = parts-sound (leb (length l) 2048) (fields_of l)
