-- The fields of a text from a place on: where they end, and how a reader goes on from one to the next.
-- Assumes nothing.
use mathlib.Core.Path.{◌∙◌, ◌≡◌, ap, refl, sym}
use mathlib.Core.Bool.{Bool, cond, false, not, true}
use mathlib.Core.List.{List, [], ◌∷◌}
use Prim.Native.Nat.{min, ◌+◌, ◌-◌, ◌<◌, ◌≤◌, suc, ℕ}
use native.Mathlib.Nat.{le_refl}
use Rattle.std.proofs.Common.{add-zero}
use native.Mathlib.Omega.{arith}
use lib.Dec.{eqb, leb, ltb}
use lib.ListN.{drop, drop_of_length-le, length, length-drop, take}
use lib.Seq.{drop-drop}
use borrow.Author.Tests.{le-leb, leb-false, leb-true, lt-leb, ltb-false}
use Rattle.std.specs.List.{position_or_len}
use Rattle.std.specs.Option.{option_map_or}
use Rattle.std.specs.Prelude.{None, Some, position}
use Rattle.std.proofs.lemmas.List.Sums.{prefix_len-le-length}
use Rattle.model.specs.Lines.{onto, split}
use Rattle.model.specs.Numbers.{Bytes}
use Rattle.text.specs.Fields.{behind, end_of, field_at, fields_at, first_of, others_of}

-- ---- what stands from a place on, the place as near as the text's end
pub drop_near : (s : Bytes) (n : ℕ) → drop (min n (length s)) s ≡ drop n s
drop_near s n = go (leb n (length s)) refl
  where
    go : (t : Bool) → leb n (length s) ≡ t → drop (min n (length s)) s ≡ drop n s
    go true e =
        let h : n ≤ length s = leb-true n (length s) e in
        let m : min n (length s) ≡ n = omega arith in
        rw m
    go false e =
        let h : length s < n = leb-false n (length s) e in
        let m : min n (length s) ≡ length s = omega arith in
        rw m (drop_of_length-le s (le_refl (length s)) ∙ sym (drop_of_length-le s (omega arith)))

-- ---- the first stretch of a text
first-onto : (x : ℕ) (ls : List Bytes) → first_of (onto false x ls) ≡ x ∷ first_of ls
first-onto x [] = refl
first-onto x (l ∷ ls) = refl

module _ (b : ℕ) where
  -- it is a part of the text
  first_part : (l : Bytes) → take (length (first_of (split b l))) l ≡ first_of (split b l)
  unfolding split
  first_part [] = refl
  first_part (x ∷ xs) = go (eqb x b) (first_part xs)
    where
      go : (t : Bool) → take (length (first_of (split b xs))) xs ≡ first_of (split b xs) → take (length (first_of (onto t x (split b xs)))) (x ∷ xs) ≡ first_of (onto t x (split b xs))
      go true ih = refl
      go false ih = rw (first-onto x (split b xs)) (ap (λ (l : Bytes). x ∷ l) ih)

  first_le : (l : Bytes) → length (first_of (split b l)) ≤ length l
  unfolding split
  first_le [] = omega arith
  first_le (x ∷ xs) = go (eqb x b) (first_le xs)
    where
      go : (t : Bool) → length (first_of (split b xs)) ≤ length xs → length (first_of (onto t x (split b xs))) ≤ suc (length xs)
      go true ih = omega arith
      go false ih = rw (first-onto x (split b xs)) (omega arith)

  -- as long as what stands before the first b
  first_length : (l : Bytes) → length (first_of (split b l)) ≡ position_or_len (λ x. eqb x b) l
  unfolding split
  first_length [] = refl
  first_length (x ∷ xs) = go (eqb x b) (first_length xs)
    where
      go : (t : Bool) → length (first_of (split b xs)) ≡ position_or_len (λ x. eqb x b) xs → length (first_of (onto t x (split b xs))) ≡ cond (not t) (1 + position_or_len (λ x. eqb x b) xs) 0
      go true ih = refl
      go false ih = rw (first-onto x (split b xs)) (omega arith)

  -- ---- the fields from a place on: all of them, none, and what stands between
  pub fields_start : (s : Bytes) → fields_at b s 0 ≡ split b s
  unfolding fields_at
  fields_start s = rw (le-leb 0 (length s) (omega arith))

  pub fields-end : (s : Bytes) (at : ℕ) → length s < at → fields_at b s at ≡ []
  unfolding fields_at
  fields-end s at h = rw (lt-leb at (length s) h)

  pub fields_in : (s : Bytes) (at : ℕ) → at ≤ length s → fields_at b s at ≡ split b (drop at s)
  unfolding fields_at
  fields_in s at h = rw (le-leb at (length s) h)

  -- a place of what is left from another
  fields-drop : (s : Bytes) (at k : ℕ) → at ≤ length s → fields_at b (drop at s) k ≡ fields_at b s (at + k)
  fields-drop s at k h = go (leb (at + k) (length s)) refl
    where
      go : (t : Bool) → leb (at + k) (length s) ≡ t → fields_at b (drop at s) k ≡ fields_at b s (at + k)
      go true e =
          let p : at + k ≤ length s = leb-true (at + k) (length s) e in
          let q : k ≤ length (drop at s) = simp length-drop (omega arith) in
          fields_in (drop at s) k q ∙ ap (split b) (drop-drop k at s) ∙ sym (fields_in s (at + k) p)
      go false e =
          let p : length s < at + k = leb-false (at + k) (length s) e in
          let q : length (drop at s) < k = simp length-drop (omega arith) in
          fields-end (drop at s) k q ∙ sym (fields-end s (at + k) p)

  -- the first stretch, and the fields behind it
  fields-first : (l : Bytes) → split b l ≡ first_of (split b l) ∷ fields_at b l (length (first_of (split b l)) + 1)
  unfolding split
  fields-first [] = sym (rw (fields-end [] 1 (omega arith)))
  fields-first (x ∷ xs) = go (eqb x b) (first_of (split b xs)) (fields_at b xs (length (first_of (split b xs)) + 1)) (fields-first xs) refl
    where
      go : (t : Bool) (f : Bytes) (r : List Bytes) → split b xs ≡ f ∷ r → r ≡ fields_at b xs (length f + 1)
          → onto t x (split b xs) ≡ first_of (onto t x (split b xs)) ∷ fields_at b (x ∷ xs) (length (first_of (onto t x (split b xs))) + 1)
      go true f r e k = ap (λ (z : List Bytes). [] ∷ z) (sym (fields_in (x ∷ xs) 1 (omega arith)))
      go false f r e k =
          let n : 1 + (length f + 1) ≡ suc (length f) + 1 = omega arith in
          rw e (ap (λ (z : List Bytes). (x ∷ f) ∷ z) (k ∙ fields-drop (x ∷ xs) 1 (length f + 1) (omega arith) ∙ ap (fields_at b (x ∷ xs)) n))

  module _ (s : Bytes) (at : ℕ) where
    -- ---- the field at a place
    field_in : at ≤ length s → field_at b s at ≡ first_of (split b (drop at s))
    unfolding field_at
    field_in h = ap first_of (fields_in s at h)

    field_end : length s < at → field_at b s at ≡ []
    unfolding field_at
    field_end h = ap first_of (fields-end s at h)

    field_le : at ≤ length s → at + length (field_at b s at) ≤ length s
    field_le h =
        let k : length (first_of (split b (drop at s))) ≤ length s - at = rw (← length-drop at s) (first_le (drop at s)) in
        rw (field_in h) (omega arith)

    -- ---- where it ends: so many bytes behind the place, or the text's end, as stand before the first b
    end_first : end_of b s at ≡ min at (length s) + position_or_len (λ x. eqb x b) (drop (min at (length s)) s)
    unfolding end_of
    end_first = go (leb at (length s)) refl
      where
        go : (t : Bool) → leb at (length s) ≡ t → min at (length s) + length (field_at b s at) ≡ min at (length s) + position_or_len (λ x. eqb x b) (drop (min at (length s)) s)
        go true e =
            let h : at ≤ length s = leb-true at (length s) e in
            let m : min at (length s) ≡ at = omega arith in
            rw (m, field_in h, first_length (drop at s))
        go false e =
            let h : length s < at = leb-false at (length s) e in
            let m : min at (length s) ≡ length s = omega arith in
            rw (m, field_end h, drop_of_length-le s (le_refl (length s)))

    pub end_place : end_of b s at ≡ option_map_or (λ (n : ℕ). at + n) (position (λ x. eqb x b) (drop at s)) (length s)
    end_place = go (leb at (length s)) refl
      where
        inner : (t : Bool) → at ≤ length s → ltb (position_or_len (λ x. eqb x b) (drop at s)) (length (drop at s)) ≡ t
            → end_of b s at ≡ option_map_or (λ (n : ℕ). at + n) (cond t (Some (position_or_len (λ x. eqb x b) (drop at s))) None) (length s)
        inner true h q = let m : min at (length s) ≡ at = omega arith in rw (end_first, m)
        inner false h q =
            let m : min at (length s) ≡ at = omega arith in
            let l : position_or_len (λ x. eqb x b) (drop at s) ≤ length (drop at s) = prefix_len-le-length (λ x. not (eqb x b)) (drop at s) in
            let g : length (drop at s) ≤ position_or_len (λ x. eqb x b) (drop at s) = ltb-false (position_or_len (λ x. eqb x b) (drop at s)) (length (drop at s)) q in
            rw (end_first, m) (omega (arith, length-drop at s))

        go : (t : Bool) → leb at (length s) ≡ t → end_of b s at ≡ option_map_or (λ (n : ℕ). at + n) (position (λ x. eqb x b) (drop at s)) (length s)
        go true e = inner (ltb (position_or_len (λ x. eqb x b) (drop at s)) (length (drop at s))) (leb-true at (length s) e) refl
        go false e =
            let h : length s < at = leb-false at (length s) e in
            let m : min at (length s) ≡ length s = omega arith in
            let z : drop at s ≡ [] = drop_of_length-le s (omega arith) in
            let y : drop (length s) s ≡ [] = drop_of_length-le s (le_refl (length s)) in
            rw (end_first, m, y, z) (add-zero (length s))

    pub end_from : min at (length s) ≤ end_of b s at
    unfolding end_of
    end_from = omega arith

    pub end_within : end_of b s at ≤ length s
    unfolding end_of
    end_within = go (leb at (length s)) refl
      where
        go : (t : Bool) → leb at (length s) ≡ t → min at (length s) + length (field_at b s at) ≤ length s
        go true e = let h : at ≤ length s = leb-true at (length s) e in omega (arith, field_le h)
        go false e = let h : length s < at = leb-false at (length s) e in omega (arith, ap length (field_end h))

    -- ---- the part of the text that it is
    pub part_is : take (end_of b s at - min at (length s)) (drop (min at (length s)) s) ≡ field_at b s at
    unfolding end_of
    part_is = go (leb at (length s)) refl
      where
        go : (t : Bool) → leb at (length s) ≡ t → take (min at (length s) + length (field_at b s at) - min at (length s)) (drop (min at (length s)) s) ≡ field_at b s at
        go true e =
            let h : at ≤ length s = leb-true at (length s) e in
            let m : min at (length s) ≡ at = omega arith in
            let n : at + length (first_of (split b (drop at s))) - at ≡ length (first_of (split b (drop at s))) = omega arith in
            rw (m, field_in h, n) (first_part (drop at s))
        go false e =
            let h : length s < at = leb-false at (length s) e in
            let m : min at (length s) ≡ length s = omega arith in
            let n : length s + 0 - length s ≡ 0 = omega arith in
            rw (m, field_end h, n)

  -- ---- on to the next field: f is the one at `at`, and r the place behind it
  module _ (s : Bytes) (at : ℕ) (f : Bytes) (r : ℕ) (here : f ≡ field_at b s at) (next : r ≡ behind s at (length f)) where
    pub fields-more : at ≤ length s → fields_at b s at ≡ f ∷ fields_at b s r
    fields-more h =
        let x : f ≡ first_of (split b (drop at s)) = here ∙ field_in s at h in
        let n : at + (length (first_of (split b (drop at s))) + 1) ≡ r = omega (arith, ap length x, ap length here, field_le s at h) in
        fields_in s at h ∙ fields-first (drop at s) ∙ rw (fields-drop s at (length (first_of (split b (drop at s))) + 1) h, n, ← x)

    pub fields-others : fields_at b s r ≡ others_of (fields_at b s at)
    fields-others = go (leb at (length s)) refl
      where
        go : (t : Bool) → leb at (length s) ≡ t → fields_at b s r ≡ others_of (fields_at b s at)
        go true e = sym (ap others_of (fields-more (leb-true at (length s) e)))
        go false e =
            let k : length s < at = leb-false at (length s) e in
            fields-end s r (omega arith) ∙ sym (ap others_of (fields-end s at k))
