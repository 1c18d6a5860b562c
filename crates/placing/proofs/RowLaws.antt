-- How the loop of `spread` goes: a turn is one column more.
-- Assumes nothing.
use native.Mathlib.Numerals.{add-one}
use native.Mathlib.Omega.{arith}
use mathlib.Core.Path.{◌∙◌, ◌≡◌, ap, refl, sym}
use mathlib.Core.List.{List, [], ◌++◌, ◌∷◌, append_assoc, append-nil}
use Rattle.std.specs.Prelude.{◌≢◌, eqb, suc, true, false, cond, Option, None, Some, ℕ, ◌+◌, ◌-◌, ◌<◌, ◌≤◌, length, take, drop, replicate, set, get_or}
use Rattle.std.proofs.Common.{⊎_elim}
use Rattle.std.proofs.lemmas.Bool.Decides.{eqb_tells}
use Rattle.std.proofs.lemmas.List.{take_more, take_more_set, take_all, drop-set-lt}
use lib.ListN.{drop_of_length-le, length-set}
use lib.Seq.{drop-cons}
use Rattle.model.specs.declared.Field.{Field}
use Rattle.model.specs.Places.{map_o, when}
use Rattle.store.specs.declared.Column.{Column}
use Rattle.store.specs.Packed.{no_field}
use Rattle.placing.specs.Rows.{spread}

-- ---- a row that is made from its front
behind_one : (p : List Field) (f : Field) (o : Option (List Field))
    → map_o (λ (l : List Field). p ++ l) (map_o (λ (l : List Field). f ∷ l) o) ≡ map_o (λ (l : List Field). (p ++ f ∷ []) ++ l) o
behind_one p f None = refl
behind_one p f (Some l) = ap Some (sym (append_assoc p (f ∷ []) l))

behind_none : (o : Option (List Field)) → o ≡ map_o (λ (l : List Field). [] ++ l) o
behind_none None = refl
behind_none (Some l) = refl

-- ---- the first column
there : (k : Column) (ks : List Column) (f : Field) (fs : List Field) → k.there ≡ true → spread (k ∷ ks) (f ∷ fs) ≡ map_o (λ (l : List Field). f ∷ l) (spread ks fs)
there k ks f fs e = ap (λ b. cond b (map_o (λ (l : List Field). f ∷ l) (spread ks fs)) (map_o (λ (l : List Field). no_field ∷ l) (spread ks (f ∷ fs)))) e

away : (k : Column) (ks : List Column) (fs : List Field) → k.there ≡ false → spread (k ∷ ks) fs ≡ map_o (λ (l : List Field). no_field ∷ l) (spread ks fs)
away k ks [] e = ap (λ b. cond b None (map_o (λ (l : List Field). no_field ∷ l) (spread ks []))) e
away k ks (f ∷ fs) e = ap (λ b. cond b (map_o (λ (l : List Field). f ∷ l) (spread ks fs)) (map_o (λ (l : List Field). no_field ∷ l) (spread ks (f ∷ fs)))) e

short : (k : Column) (ks : List Column) → k.there ≡ true → spread (k ∷ ks) [] ≡ None
short k ks e = ap (λ b. cond b None (map_o (λ (l : List Field). no_field ∷ l) (spread ks []))) e

-- ---- the columns and the fields from a place on
columns_on : (ks : List Column) (i : ℕ) (d : Column) → i < length ks → drop i ks ≡ get_or ks i d ∷ drop (i + 1) ks
columns_on ks i d h = rw add-one (drop-cons ks i d h)

fields_on : (fs : List Field) (u : ℕ) (e : Field) → u < length fs → drop u fs ≡ get_or fs u e ∷ drop (u + 1) fs
fields_on fs u e h = rw add-one (drop-cons fs u e h)

there_on : (ks : List Column) (fs : List Field) (i u : ℕ) (d : Column) (e : Field) → i < length ks → u < length fs → (get_or ks i d).there ≡ true
    → spread (drop i ks) (drop u fs) ≡ map_o (λ (l : List Field). get_or fs u e ∷ l) (spread (drop (i + 1) ks) (drop (u + 1) fs))
there_on ks fs i u d e hi hu t =
    ap (λ l. spread l (drop u fs)) (columns_on ks i d hi)
    ∙ ap (λ l. spread (get_or ks i d ∷ drop (i + 1) ks) l) (fields_on fs u e hu)
    ∙ there (get_or ks i d) (drop (i + 1) ks) (get_or fs u e) (drop (u + 1) fs) t

away_on : (ks : List Column) (fs : List Field) (i : ℕ) (d : Column) → i < length ks → (get_or ks i d).there ≡ false
    → spread (drop i ks) fs ≡ map_o (λ (l : List Field). no_field ∷ l) (spread (drop (i + 1) ks) fs)
away_on ks fs i d hi t = ap (λ l. spread l fs) (columns_on ks i d hi) ∙ away (get_or ks i d) (drop (i + 1) ks) fs t

short_on : (ks : List Column) (i : ℕ) (d : Column) → i < length ks → (get_or ks i d).there ≡ true → spread (drop i ks) [] ≡ None
short_on ks i d hi t = ap (λ l. spread l []) (columns_on ks i d hi) ∙ short (get_or ks i d) (drop (i + 1) ks) t

-- ---- the row that is blank from a place on
row_on : (row : List Field) (i : ℕ) → i < length row → drop i row ≡ get_or row i no_field ∷ drop (i + 1) row
row_on row i h = fields_on row i no_field h

blank_at : (row : List Field) (i : ℕ) → i < 8 → length row ≡ 8 → drop i row ≡ replicate (8 - i) no_field → get_or row i no_field ≡ no_field
blank_at row i h n b =
    let some : 8 - i ≡ suc (7 - i) = omega arith in
    ap (λ l. get_or l 0 no_field) (sym (drop-cons row i no_field (omega arith)) ∙ b ∙ ap (λ m. replicate m no_field) some)

blank_on : (row : List Field) (i : ℕ) → i < 8 → length row ≡ 8 → drop i row ≡ replicate (8 - i) no_field → drop (i + 1) row ≡ replicate (8 - (i + 1)) no_field
blank_on row i h n b =
    let some : 8 - i ≡ suc (7 - i) = omega arith in
    let less : 7 - i ≡ 8 - (i + 1) = omega arith in
    ap (drop 1) (sym (row_on row i (omega arith)) ∙ b ∙ ap (λ m. replicate m no_field) some) ∙ ap (λ m. replicate m no_field) less

-- ---- the loop
-- the first i columns have their fields in the row, of which u are used, and the row is blank from there on
unfoldable pub Spreading : List Column → List Field → ℕ → ℕ → List Field → Type 0
Spreading ks fs i u row =
    (spread ks fs ≡ map_o (λ (l : List Field). take i row ++ l) (spread (drop i ks) (drop u fs)))
    × (drop i row ≡ replicate (8 - i) no_field)
    × (length row ≡ 8)
    × (u ≤ length fs)

pub spread_starts : (ks : List Column) (fs : List Field) → Spreading ks fs 0 0 (replicate 8 no_field)
unfolding Spreading
spread_starts ks fs = (behind_none (spread ks fs), refl, refl, omega arith)

pub spread_there : (ks : List Column) (fs : List Field) (i u : ℕ) (row : List Field) (d : Column) (e : Field)
    → Spreading ks fs i u row → length ks ≡ 8 → i < 8 → u < length fs → (get_or ks i d).there ≡ true
    → Spreading ks fs (i + 1) (u + 1) (set row i (get_or fs u e))
unfolding Spreading
spread_there ks fs i u row d e s n hi hu t = (
  s.0
      ∙ ap (map_o (λ (l : List Field). take i row ++ l)) (there_on ks fs i u d e (omega arith) hu t)
      ∙ behind_one (take i row) (get_or fs u e) (spread (drop (i + 1) ks) (drop (u + 1) fs))
      ∙ ap (λ p. map_o (λ (l : List Field). p ++ l) (spread (drop (i + 1) ks) (drop (u + 1) fs))) (sym (take_more_set row i (get_or fs u e) (omega arith))),
  drop-set-lt (i + 1) row i (get_or fs u e) (omega arith) ∙ blank_on row i hi s.2 s.1,
  length-set row i (get_or fs u e) ∙ s.2,
  omega arith,
)

pub spread_away : (ks : List Column) (fs : List Field) (i u : ℕ) (row : List Field) (d : Column)
    → Spreading ks fs i u row → length ks ≡ 8 → i < 8 → (get_or ks i d).there ≡ false → Spreading ks fs (i + 1) u row
unfolding Spreading
spread_away ks fs i u row d s n hi t = (
  s.0
      ∙ ap (map_o (λ (l : List Field). take i row ++ l)) (away_on ks (drop u fs) i d (omega arith) t)
      ∙ behind_one (take i row) no_field (spread (drop (i + 1) ks) (drop u fs))
      ∙ ap (λ f. map_o (λ (l : List Field). (take i row ++ f ∷ []) ++ l) (spread (drop (i + 1) ks) (drop u fs))) (sym (blank_at row i hi s.2 s.1))
      ∙ ap (λ p. map_o (λ (l : List Field). p ++ l) (spread (drop (i + 1) ks) (drop u fs))) (sym (take_more row i no_field (omega arith))),
  blank_on row i hi s.2 s.1,
  s.2,
  s.3,
)

pub spread_short : (ks : List Column) (fs : List Field) (i u : ℕ) (row : List Field) (d : Column)
    → Spreading ks fs i u row → length ks ≡ 8 → i < 8 → length fs ≤ u → (get_or ks i d).there ≡ true → spread ks fs ≡ None
unfolding Spreading
spread_short ks fs i u row d s n hi hu t =
    s.0 ∙ ap (map_o (λ (l : List Field). take i row ++ l)) (ap (spread (drop i ks)) (drop_of_length-le fs hu) ∙ short_on ks i d (omega arith) t)

-- the fields that are left over
left_over : (fs : List Field) (u : ℕ) (row : List Field) → u ≤ length fs → length row ≤ 8
    → map_o (λ (l : List Field). take 8 row ++ l) (spread [] (drop u fs)) ≡ when (eqb u (length fs)) row
left_over fs u row h n = ⊎_elim none some (eqb_tells u (length fs))
  where
    none : (eqb u (length fs) ≡ true) × (u ≡ length fs) → map_o (λ (l : List Field). take 8 row ++ l) (spread [] (drop u fs)) ≡ when (eqb u (length fs)) row
    none t = rw (t.0, drop_of_length-le fs {i = u} (omega (arith, t.1))) (ap Some (append-nil (take 8 row) ∙ take_all 8 row n))

    some : (eqb u (length fs) ≡ false) × (u ≢ length fs) → map_o (λ (l : List Field). take 8 row ++ l) (spread [] (drop u fs)) ≡ when (eqb u (length fs)) row
    some t = rw (t.0, fields_on fs u no_field (omega (arith, t.1))) refl

pub spread_ends : (ks : List Column) (fs : List Field) (i u : ℕ) (row : List Field)
    → Spreading ks fs i u row → length ks ≡ 8 → i ≡ 8 → spread ks fs ≡ when (eqb u (length fs)) row
unfolding Spreading
spread_ends ks fs i u row s n e =
    s.0
    ∙ ap (λ m. map_o (λ (l : List Field). take m row ++ l) (spread (drop m ks) (drop u fs))) e
    ∙ ap (λ l. map_o (λ (l : List Field). take 8 row ++ l) (spread l (drop u fs))) (drop_of_length-le ks {i = 8} (omega arith))
    ∙ left_over fs u row s.3 (omega arith)
