-- What an array is that `map` made of another, `from_fn` of two others by their numbers, or a loop of its elements or of the rows that it keeps.
-- Assumes nothing.
use mathlib.Core.Path.{◌∙◌, ◌≡◌, ap, refl, subst, sym}
use mathlib.Core.List.{List, [], ◌++◌, ◌∷◌, append-nil, map, zip_with}
use Prim.Native.Nat.{◌+◌, ◌-◌, ◌<◌, ◌≤◌, suc, zero, ℕ}
use native.Mathlib.Omega.{arith}
use lib.ListN.{drop, drop_of_length-le, get_or, length, length-set, replicate, set, take}
use denote.Param.Members.{Mut}
use Rattle.std.specs.Fn.{Called}
use Rattle.std.specs.Array.{IsFromFnResult, IsFromFnResultFrom, IsMapOf, MapsFrom}
use Rattle.std.proofs.Common.{append_assoc, length-append}
use Rattle.std.proofs.Math.Seq.{set-append_seam}
use Rattle.std.proofs.lemmas.List.{drop-set-lt, drop_more, take_all, take_more_set}
use Rattle.lists.specs.Pad.{pad}

-- a function that gives h of each element, and stays as it is, gives h of all
module _ {F A B : Type 0} {g : Mut F (A × Unit {0}) B} (h : A → B) {f : F} (says : (x : A) (y : B) (q : F) → Called g f (x, tt) y q → (y ≡ h x) × (q ≡ f)) where
  left : (xs : List A) (ys : List B) (i n : ℕ) → length xs ≡ i + n → length ys ≡ i + n → MapsFrom g f xs ys i n → drop i ys ≡ map h (drop i xs)
  left xs ys i zero a b m = rw (drop_of_length-le ys {i = i} (omega arith), drop_of_length-le xs {i = i} (omega arith))
  left xs ys i (suc n) a b (q, x, y, at_x, at_y, k, m) =
      let w = says x y q k in
      let t = left xs ys (i + 1) n (omega arith) (omega arith) (subst (λ (p : F). MapsFrom g p xs ys (i + 1) n) w.1 m) in
      rw (drop_more ys i y (omega arith), drop_more xs i x (omega arith), at_x.0, at_y.0, w.0, t)

  pub all_mapped : {xs : List A} {ys : List B} {n : ℕ} → length xs ≡ n → IsMapOf g f xs ys n → ys ≡ map h xs
  all_mapped {xs} {ys} {n} a m = left xs ys 0 n (omega arith) (omega (arith, m.long)) m.each

-- one that gives h of the elements of two arrays at each number gives h of all pairs
module _ {F A B C : Type 0} {g : Mut F (ℕ × Unit {0}) C} (h : A → B → C) {f : F} (xs : List A) (ys : List B)
    (says : (i : ℕ) (z : C) (q : F) → i < length xs → i < length ys → Called g f (i, tt) z q → (d : A) × (e : B) × (z ≡ h (get_or xs i d) (get_or ys i e)) × (q ≡ f))
  where
    next : (zs : List C) (i : ℕ) (z : C) (d : A) (e : B) → i < length xs → i < length ys → i < length zs → get_or zs i z ≡ z → z ≡ h (get_or xs i d) (get_or ys i e)
        → drop (i + 1) zs ≡ zip_with h (drop (i + 1) xs) (drop (i + 1) ys) → drop i zs ≡ zip_with h (drop i xs) (drop i ys)
    unfolding zip_with
    next zs i z d e a b k p q t = rw (drop_more zs i z k, drop_more xs i d a, drop_more ys i e b, p, q, t)

    others : (zs : List C) (i n : ℕ) → length xs ≡ i + n → length ys ≡ i + n → length zs ≡ i + n → IsFromFnResultFrom g f zs i n
        → drop i zs ≡ zip_with h (drop i xs) (drop i ys)
    unfolding zip_with
    others zs i zero a b k m = rw (drop_of_length-le zs {i = i} (omega arith), drop_of_length-le xs {i = i} (omega arith))
    others zs i (suc n) a b k (q, z, at_z, c, m) =
        let w = says i z q (omega arith) (omega arith) c in
        let t = others zs (i + 1) n (omega arith) (omega arith) (omega arith) (subst (λ (p : F). IsFromFnResultFrom g p zs (i + 1) n) w.3 m) in
        next zs i z w.0 w.1 (omega arith) (omega arith) (omega arith) at_z.0 w.2 t

    pub all_paired : {zs : List C} {n : ℕ} → length xs ≡ n → length ys ≡ n → IsFromFnResult g f zs n → zs ≡ zip_with h xs ys
    all_paired {zs} {n} a b m = others zs 0 n (omega arith) (omega arith) (omega (arith, m.long)) m.each

-- a loop puts h of each element in its place: the first i are done
module _ {A : Type 0} (h : A → A) (xs : List A) where
  pub record Turned (l : List A) (i : ℕ) : Type 0 where
    pub long : length l ≡ length xs
    pub so_far : map h xs ≡ take i l ++ map h (drop i l)

  pub turned_first : Turned xs 0
  turned_first = record { long = refl; so_far = refl }

  pub turned_next : (l : List A) (i : ℕ) (y d : A) → i < length l → y ≡ h (get_or l i d) → Turned l i → Turned (set l i y) (i + 1)
  turned_next l i y d k e t =
      let tail : map h (drop i l) ≡ y ∷ map h (drop (i + 1) l) = rw (drop_more l i d k, e) refl in
      let more : take i l ++ (y ∷ map h (drop (i + 1) l)) ≡ take (i + 1) (set l i y) ++ map h (drop (i + 1) (set l i y)) =
      rw (take_more_set l i y k, drop-set-lt (i + 1) l i y (omega arith)) (sym (append_assoc (take i l) (y ∷ []) (map h (drop (i + 1) l)))) in
      record { long = simp length-set t.long; so_far = t.so_far ∙ ap (λ (r : List A). take i l ++ r) tail ∙ more }

  pub turned_last : (l : List A) (i : ℕ) → length l ≤ i → Turned l i → l ≡ map h xs
  turned_last l i k t = sym (t.so_far ∙ rw (take_all i l k, drop_of_length-le l {i = i} k) (append-nil l))

-- a list that is filled up, and grows by one
pub pad_more : {A : Type 0} (d : A) (n : ℕ) (l : List A) (x : A) → length l < n → set (pad d n l) (length l) x ≡ pad d n (l ++ x ∷ [])
unfolding pad
pad_more d n l x h =
    let left : ℕ = n - length (l ++ x ∷ []) in
    let e : n - length l ≡ suc left = omega (arith, length-append l (x ∷ [])) in
    ap (λ (m : ℕ). set (l ++ replicate m d) (length l) x) e ∙ set-append_seam l d (replicate left d) x ∙ sym (append_assoc l (x ∷ []) (replicate left d))
