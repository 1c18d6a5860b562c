-- The fields of a row, a class and a value after another. Of the line, l is left.
-- Assumes nothing.
use mathlib.Core.Path.{◌∙◌, ◌≡◌, ap, refl, sym}
use mathlib.Core.List.{List, [], ◌++◌, ◌∷◌, append_assoc, append-nil}
use Rattle.std.proofs.Common.{false, inl, inr, rules, true}
use Rattle.std.specs.Prelude.{◌⊎◌, Option, None, Some, slice_set}
use Prim.Native.Nat.{◌+◌, ◌<◌, ◌≤◌, ℕ}
use native.Mathlib.Numerals.{add-one}
use native.Mathlib.Omega.{arith}
use lib.ListN.{length, length-append, length-set, set, take}
use lib.Seq.{length-take-le, take-suc-set}
use Rattle.std.proofs.lemmas.List.{take_all}
use borrow.Author.Tests.{le-leb, lt-leb}
use Rattle.model.specs.declared.Class.{Class}
use Rattle.model.specs.declared.Field.{Field}
use Rattle.model.specs.declared.Value.{Value}
use Rattle.model.specs.Numbers.{Bytes}
use Rattle.model.specs.Places.{and_then, map_o, when}
use Rattle.model.specs.Texts.{class, read_class, read_fields, read_value, value}
use Rattle.model.proofs.OptionLaws.{map-twice, nothing_is}
use Rattle.steps.specs.Steps.{Step, Takes, both_by, left, next_by, none_left, of_field}
use Rattle.steps.specs.declared.Reader.{Reader}
use Rattle.record.specs.Records.{eight, leading}

-- a field that was read, with the others read on
abbrev onwards : (Class × Value) × List Bytes → Option (List Field)
onwards x = map_o (λ (fs : List Field). record { class = x.0.0; value = x.0.1 } ∷ fs) (read_fields 8 x.1)

-- where some are left, the first is a class and a value
some_by : (x : Bytes) (l : List Bytes) → read_fields 8 (x ∷ l) ≡ and_then (both_by (class 8) (value 8) (x ∷ l)) onwards
unfolding read_fields
some_by x [] = go (read_class 8 x)
  where
    go : (o : Option Class) → None ≡ and_then (and_then (map_o (λ (k : Class). (k, [])) o) (next_by (value 8))) onwards
    go None = refl
    go (Some k) = refl
some_by x (y ∷ l) = go (read_class 8 x)
  where
    pair : (f : Field) (q : Option (List Field)) → and_then q (λ (fs : List Field). Some (f ∷ fs)) ≡ map_o (λ (fs : List Field). f ∷ fs) q
    pair f None = refl
    pair f (Some fs) = refl

    behind-class : (k : Class) (q : Option Value)
        → and_then q (λ (v : Value). and_then (read_fields 8 l) (λ (fs : List Field). Some (record { class = k; value = v } ∷ fs)))
        ≡ and_then {A = (Class × Value) × List Bytes} (map_o (λ (u : Value × List Bytes). ((k, u.0), u.1)) (map_o (λ (v : Value). (v, l)) q)) onwards
    behind-class k None = refl
    behind-class k (Some v) = pair (record { class = k; value = v }) (read_fields 8 l)

    go : (o : Option Class)
        → and_then o (λ (k : Class). and_then (read_value 8 y) (λ (v : Value). and_then (read_fields 8 l) (λ (fs : List Field). Some (record { class = k; value = v } ∷ fs))))
        ≡ and_then (and_then (map_o (λ (k : Class). (k, y ∷ l)) o) (next_by (value 8))) onwards
    go None = refl
    go (Some k) = behind-class k (read_value 8 y)

-- ---- the places that stand filled first
leading_none : (a : List (Option Field)) → leading (a ++ (None ∷ [])) ≡ leading a
leading_none [] = refl
leading_none (None ∷ a) = refl
leading_none (Some f ∷ a) = ap (λ (l : List Field). f ∷ l) (leading_none a)

-- where all are filled, one more stands behind them
leading_more : (a : List (Option Field)) (f : Field) → length (leading a) ≡ length a → leading (a ++ (Some f ∷ [])) ≡ leading a ++ (f ∷ [])
leading_more [] f h = refl
leading_more (None ∷ a) f h = absurd (omega arith)
leading_more (Some g ∷ a) f h = ap (λ (l : List Field). g ∷ l) (leading_more a f (omega arith))

leading_le : (a : List (Option Field)) → length (leading a) ≤ length a
leading_le [] = omega arith
leading_le (None ∷ a) = omega arith
leading_le (Some f ∷ a) = omega (arith, leading_le a)

map_alike : {A B : Type 0} (f g : A → B) → ((a : A) → f a ≡ g a) → (o : Option A) → map_o f o ≡ map_o g o
map_alike f g h None = refl
map_alike f g h (Some a) = ap Some (h a)

-- ---- the loop: X is what all the fields are read as. The first n places hold those that were read, and each of them one, or nothing is left
pub record Going (X : Option (List Field)) (fs : List (Option Field)) (n : ℕ) (l : List Bytes) : Type 0 where
  pub room : length fs ≡ 8
  pub so_far : X ≡ map_o (λ (r : List Field). leading (take n fs) ++ r) (read_fields 8 l)
  pub each : (length (leading (take n fs)) ≡ n) ⊎ (l ≡ [])

-- none yet
pub row_starts : (fs : List (Option Field)) (l : List Bytes) → length fs ≡ 8 → Going (read_fields 8 l) fs 0 l
row_starts fs l h = record { room = h; so_far = go (read_fields 8 l); each = inl refl }
  where
    go : (o : Option (List Field)) → o ≡ map_o (λ (r : List Field). r) o
    go None = refl
    go (Some r) = refl

module _ (X : Option (List Field)) (fs : List (Option Field)) (n : ℕ) where
  abbrev added : List Field → List Field
  added r = leading (take n fs) ++ r

  -- one more place: o is what stands in it, and m what is left then
  place-none : n < length fs → leading (take (n + 1) (set fs n None)) ≡ leading (take n fs)
  place-none h = rw (add-one, take-suc-set fs n None h) (leading_none (take n fs))

  -- where one was read, it stands there
  module _ (f : Field) (h : n < length fs) (full : length (leading (take n fs)) ≡ n) where
    place-some : leading (take (n + 1) (set fs n (Some f))) ≡ leading (take n fs) ++ (f ∷ [])
    place-some = rw (add-one, take-suc-set fs n (Some f) h) (leading_more (take n fs) f (omega (arith, length-take-le n fs (omega arith))))

    goes_on : (l m : List Bytes) → X ≡ map_o added (read_fields 8 l) → Some ((f.class, f.value), m) ≡ both_by (class 8) (value 8) l
        → X ≡ map_o (λ (r : List Field). leading (take (n + 1) (set fs n (Some f))) ++ r) (read_fields 8 m)
    goes_on [] m k e = nothing_is (sym e)
    goes_on (x ∷ l) m k e =
        k
        ∙ ap (map_o added) (some_by x l ∙ ap (λ (o : Step (Class × Value)). and_then o onwards) (sym e))
        ∙ map-twice added (λ (r : List Field). f ∷ r) (read_fields 8 m)
        ∙ map_alike (λ (r : List Field). added (f ∷ r)) (λ (r : List Field). leading (take (n + 1) (set fs n (Some f))) ++ r) more (read_fields 8 m)
      where
        more : (r : List Field) → added (f ∷ r) ≡ leading (take (n + 1) (set fs n (Some f))) ++ r
        more r = rw place-some (sym (append_assoc (leading (take n fs)) (f ∷ []) r))

  pub row_goes : (old new : Reader) (o : Option Field) (f : Field) → Going X fs n (left old) → n < 8 → o ≡ Some f → Takes (both_by (class 8) (value 8)) old (map_o of_field o) new → Going X (slice_set fs n (Some f)) (n + 1) (left new)
  row_goes old new o f k h z t = go k.each
    where
      e : Some ((f.class, f.value), left new) ≡ both_by (class 8) (value 8) (left old)
      e = ap (λ (o : Option Field). map_o (λ (a : Class × Value). (a, left new)) (map_o of_field o)) (sym z) ∙ t.0

      go : (length (leading (take n fs)) ≡ n) ⊎ (left old ≡ []) → Going X (slice_set fs n (Some f)) (n + 1) (left new)
      go (inl p) =
          let i : n < length fs = omega (arith, k.room) in
          record { room = simp length-set k.room; so_far = goes_on f i p (left old) (left new) k.so_far e; each = inl (rw (place-some f i p) (simp length-append (omega arith))) }
      go (inr p) = nothing_is (sym (ap (both_by (class 8) (value 8)) p) ∙ sym e)

  -- where nothing is left, the place stays empty
  pub row_rests : (l : List Bytes) → Going X fs n l → n < 8 → none_left l ≡ true → Going X (slice_set fs n None) (n + 1) l
  row_rests [] k h e = record { room = simp length-set k.room; so_far = rw (place-none (omega (arith, k.room))) k.so_far; each = inr refl }
  row_rests (x ∷ l) k h e = absurd (search rules)

  -- where some are left, all is what comes of the next field
  by_next : (x : Bytes) (l : List Bytes) (o : Step (Class × Value)) → Going X fs n (x ∷ l) → both_by (class 8) (value 8) (x ∷ l) ≡ o → X ≡ map_o added (and_then o onwards)
  by_next x l o k e = k.so_far ∙ ap (map_o added) (some_by x l ∙ ap (λ (o : Step (Class × Value)). and_then o onwards) e)

  -- where something is left that can't be read, nothing is read
  pub row_breaks : (old new : Reader) (o : Option Field) → Going X fs n (left old) → none_left (left old) ≡ false → o ≡ None → Takes (both_by (class 8) (value 8)) old (map_o of_field o) new → None ≡ and_then X eight
  row_breaks old new o k e z t = go (left old) k e (ap (λ (o : Option Field). map_o (λ (a : Class × Value). (a, left new)) (map_o of_field o)) (sym z) ∙ t.0)
    where
      go : (l : List Bytes) → Going X fs n l → none_left l ≡ false → None ≡ both_by (class 8) (value 8) l → None ≡ and_then X eight
      go [] k e z = absurd (search rules)
      go (x ∷ l) k e z = sym (ap (λ (q : Option (List Field)). and_then q eight) (by_next x l None k (sym z)))

  -- all places have been come to, and nothing is left
  pub row_ends : (l : List Bytes) (u : Unit {0}) → Going X fs n l → n ≡ 8 → Some u ≡ when (none_left l) (tt {0}) → Some (leading fs) ≡ and_then X eight
  unfolding read_fields
  row_ends [] u k h z =
      let whole : take n fs ≡ fs = take_all n fs (omega (arith, k.room)) in
      let e : X ≡ Some (leading fs) = k.so_far ∙ rw whole (ap Some (append-nil (leading fs))) in
      rw (e, le-leb (length (leading fs)) 8 (omega (arith, k.room, leading_le fs)))
  row_ends (x ∷ l) u k h z = nothing_is (sym z)

  -- something is
  pub row_stops : (l : List Bytes) → Going X fs n l → n ≡ 8 → None ≡ when (none_left l) (tt {0}) → None ≡ and_then X eight
  row_stops [] k h z = nothing_is z
  row_stops (x ∷ l) k h z = go k.each
    where
      wide : length (leading (take n fs)) ≡ 8 → (f : Field) (q : Option (List Field)) → None ≡ and_then (map_o (λ (r : List Field). added (f ∷ r)) q) eight
      wide p f None = refl
      wide p f (Some r) =
          let y : 8 < length (added (f ∷ r)) = simp length-append (omega arith) in
          rw (lt-leb (length (added (f ∷ r))) 8 y)

      full : length (leading (take n fs)) ≡ 8 → (o : Step (Class × Value)) → both_by (class 8) (value 8) (x ∷ l) ≡ o → None ≡ and_then X eight
      full p None e = sym (ap (λ (q : Option (List Field)). and_then q eight) (by_next x l None k e))
      full p (Some y) e =
          let f : Field = record { class = y.0.0; value = y.0.1 } in
          wide p f (read_fields 8 y.1)
          ∙ sym (ap (λ (q : Option (List Field)). and_then q eight) (by_next x l (Some y) k e ∙ map-twice added (λ (r : List Field). f ∷ r) (read_fields 8 y.1)))

      go : (length (leading (take n fs)) ≡ n) ⊎ (x ∷ l ≡ []) → None ≡ and_then X eight
      go (inl p) = full (omega arith) (both_by (class 8) (value 8) (x ∷ l)) refl
      go (inr p) = absurd (search rules)
