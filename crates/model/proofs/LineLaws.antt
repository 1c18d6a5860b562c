-- Lines and fields, there and back.
-- Assumes nothing.
use mathlib.Core.Path.{◌∙◌, ◌≡◌, ap, ap₂, refl}
use mathlib.Core.Bool.{Bool, false, false≢true, true}
use mathlib.Core.List.{List, [], ◌++◌, ◌∷◌, append_assoc, append-nil}
use Rattle.std.specs.Prelude.{Some}
use Prim.Native.Nat.{◌<◌, ◌≤◌, ℕ}
use native.Mathlib.Omega.{arith}
use lib.Dec.{eqb}
use borrow.Author.Tests.{eq-eqb, eqb-true, ne_eqb}
use Rattle.model.specs.Numbers.{Bytes}
use Rattle.model.specs.Lines.{fields_of, flat, is_text, join, line_of, lines, onto, split, unlines, whole}
use Rattle.model.specs.Conditions.{Every}
use Rattle.model.proofs.Tests.{and-fst, and-snd}
use Rattle.model.proofs.Every.{every_append}
use Rattle.model.proofs.OptionLaws.{map-some, nothing_is}

-- no byte s; a text with no byte up to 13 has neither tabs nor line feeds
abbrev pub Free : ℕ → Bytes → Type 0
Free s l = Every (λ (b : ℕ). eqb b s ≡ false) l

abbrev pub Clean : Bytes → Type 0
Clean l = Every (λ (b : ℕ). 13 < b) l

pub clean_free : (s : ℕ) (l : Bytes) → s ≤ 13 → Clean l → Free s l
clean_free s [] h c = tt
clean_free s (b ∷ l) h c = let k : 13 < b = c.0 in (ne_eqb b s (λ e. omega arith), clean_free s l h c.1)

-- ---- stretches
pub split-free : (s : ℕ) (l : Bytes) → Free s l → split s l ≡ l ∷ []
unfolding split
split-free s [] h = refl
split-free s (b ∷ l) h = rw (h.0, split-free s l h.1)

pub split_at : (s : ℕ) (l r : Bytes) → Free s l → split s (l ++ (s ∷ r)) ≡ l ∷ split s r
unfolding split
split_at s [] r h = rw (eq-eqb s s refl)
split_at s (b ∷ l) r h = rw (h.0, split_at s l r h.1)

split-some : (s : ℕ) (l : Bytes) → (x : Bytes) × (xs : List Bytes) × (split s l ≡ x ∷ xs)
unfolding split
split-some s [] = ([], [], refl)
split-some s (b ∷ l) = go (eqb b s) (split-some s l)
  where
    go : (t : Bool) → ((x : Bytes) × (xs : List Bytes) × (split s l ≡ x ∷ xs)) → (x : Bytes) × (xs : List Bytes) × (onto t b (split s l) ≡ x ∷ xs)
    go true h = ([], split s l, refl)
    go false h = (b ∷ h.0, h.1, rw h.2)

pub join-split : (s : ℕ) (l : Bytes) → join s (split s l) ≡ l
unfolding join split
join-split s [] = refl
join-split s (b ∷ l) = let (x, xs, e) = split-some s l in rw e (go x xs (eqb b s) refl (rw e at (join-split s l)))
  where
    go : (x : Bytes) (xs : List Bytes) (t : Bool) → eqb b s ≡ t → join s (x ∷ xs) ≡ l → join s (onto t b (x ∷ xs)) ≡ b ∷ l
    go x xs true e h = rw (eqb-true b s e) (ap (λ (y : Bytes). s ∷ y) h)
    go x xs false e h = ap (λ (y : Bytes). b ∷ y) h

pub split-join : (s : ℕ) (x : Bytes) (xs : List Bytes) → Free s x → Every (Free s) xs → split s (join s (x ∷ xs)) ≡ x ∷ xs
unfolding join
split-join s x [] h k = rw (append-nil x) (split-free s x h)
split-join s x (y ∷ ys) h k = split_at s x (y ++ flat (λ (z : Bytes). s ∷ z) ys) h ∙ ap (λ (z : List Bytes). x ∷ z) (split-join s y ys k.0 k.1)

-- ---- fields
pub line-fields : (l : Bytes) → line_of (fields_of l) ≡ l
unfolding line_of fields_of
line-fields l = join-split 9 l

pub all-free : (s : ℕ) (ls : List Bytes) → s ≤ 13 → Every Clean ls → Every (Free s) ls
all-free s [] h c = tt
all-free s (l ∷ ls) h c = (clean_free s l h c.0, all-free s ls h c.1)

pub fields-line : (x : Bytes) (xs : List Bytes) → Clean x → Every Clean xs → fields_of (line_of (x ∷ xs)) ≡ x ∷ xs
unfolding line_of fields_of
fields-line x xs h k = split-join 9 x xs (clean_free 9 x (omega arith) h) (all-free 9 xs (omega arith) k)

-- a line of clean fields has no line feed
pub line-free : (xs : List Bytes) → Every Clean xs → Free 10 (line_of xs)
unfolding line_of join
line-free [] h = tt
line-free (x ∷ xs) h = every_append (λ (b : ℕ). eqb b 10 ≡ false) x (flat (λ (y : Bytes). 9 ∷ y) xs) (clean_free 10 x (omega arith) h.0) (go xs h.1)
  where
    go : (xs : List Bytes) → Every Clean xs → Free 10 (flat (λ (y : Bytes). 9 ∷ y) xs)
    go [] k = tt
    go (y ∷ ys) k = (refl, every_append (λ (b : ℕ). eqb b 10 ≡ false) y (flat (λ (z : Bytes). 9 ∷ z) ys) (clean_free 10 y (omega arith) k.0) (go ys k.1))

-- ---- lines
whole_join : (ms ls : List Bytes) → whole ms ≡ Some ls → unlines ls ≡ join 10 ms
unfolding whole unlines join
whole_join [] ls e = nothing_is e
whole_join ([] ∷ []) ls e = let q : [] ≡ ls = cc in rw (← q)
whole_join ((b ∷ l) ∷ []) ls e = nothing_is e
whole_join (l ∷ m ∷ ms) ls e =
    let (x, p, q) = map-some (λ (x : List Bytes). l ∷ x) (whole (m ∷ ms)) ls e in
    rw (← q, whole_join (m ∷ ms) x p) (append_assoc l (10 ∷ []) (join 10 (m ∷ ms)))

-- a text that has lines is those lines
pub lines-unlines : (bs : Bytes) (ls : List Bytes) → lines bs ≡ Some ls → unlines ls ≡ bs
unfolding lines
lines-unlines bs ls e = whole_join (split 10 bs) ls e ∙ join-split 10 bs

pub unlines-lines : (ls : List Bytes) → Every (Free 10) ls → lines (unlines ls) ≡ Some ls
unfolding lines unlines whole
unlines-lines [] h = unfold split in refl
unlines-lines (l ∷ ls) h =
    let (x, xs, e) = split-some 10 (unlines ls) in
    rw (append_assoc l (10 ∷ []) (unlines ls), split_at 10 l (unlines ls) h.0, e) (rw (rw e at (unlines-lines ls h.1)))

-- ---- words
pub text_is : (x y : Bytes) → is_text x y ≡ true → x ≡ y
unfolding is_text
text_is [] [] e = refl
text_is [] (b ∷ y) e = absurd (false≢true e)
text_is (a ∷ x) [] e = absurd (false≢true e)
text_is (a ∷ x) (b ∷ y) e = ap₂ (λ (c : ℕ) (z : Bytes). c ∷ z) (eqb-true a b (and-fst (eqb a b) (is_text x y) e)) (text_is x y (and-snd (eqb a b) (is_text x y) e))
