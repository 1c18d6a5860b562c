-- Loops that write a list of parts, of any kind: a turn of such a loop.
-- Assumes nothing.
use Rattle.std.proofs.Common.{◌≡◌, ◌∙◌, ap, refl, sym, List, [], ◌++◌, ◌∷◌, ℕ, suc, ◌+◌, ◌<◌, arith, add-zero, zero-add, append-nil, append_assoc, get_or, length, take}
use Rattle.std.proofs.lemmas.List.{length-take-le, take_more}
use Rattle.model.specs.Lines.{flat}
use Rattle.model.specs.Numbers.{Bytes}
use Rattle.room.specs.declared.Pen.{Pen}
use Rattle.room.specs.Writing.{Writes, each}
use Rattle.room.proofs.PenLaws.{writes_both}

-- ---- parts whose text knows their number
each_append : {A : Type 0} (f : ℕ → A → Bytes) (i : ℕ) (l m : List A) → each f i (l ++ m) ≡ each f i l ++ each f (i + length l) m
unfolding each
each_append f i [] m = rw add-zero
each_append f i (x ∷ l) m =
    let e : i + 1 + length l ≡ i + suc (length l) = omega arith in
    ap (λ (t : Bytes). f i x ++ t) (each_append f (i + 1) l m ∙ rw e) ∙ sym (append_assoc (f i x) (each f (i + 1) l) (each f (i + suc (length l)) m))

each_one : {A : Type 0} (f : ℕ → A → Bytes) (i : ℕ) (x : A) → each f i (x ∷ []) ≡ f i x
unfolding each
each_one f i x = append-nil (f i x)

pub each_none : {A : Type 0} (f : ℕ → A → Bytes) (i : ℕ) → each f i [] ≡ []
unfolding each
each_none f i = refl

each_more : {A : Type 0} (f : ℕ → A → Bytes) (l : List A) (i : ℕ) (d : A) → i < length l → each f 0 (take (i + 1) l) ≡ each f 0 (take i l) ++ f i (get_or l i d)
each_more f l i d h =
    let n : 0 + length (take i l) ≡ i = zero-add (length (take i l)) ∙ length-take-le i l (omega arith) in
    rw (take_more l i d h, each_append f 0 (take i l) (get_or l i d ∷ []), n) (ap (λ (t : Bytes). each f 0 (take i l) ++ t) (each_one f i (get_or l i d)))

-- one more part
pub writes_part : {A : Type 0} (f : ℕ → A → Bytes) (l : List A) (i : ℕ) (d : A) (p q r : Pen) → Writes p (each f 0 (take i l)) q → Writes q (f i (get_or l i d)) r → i < length l → Writes p (each f 0 (take (i + 1) l)) r
writes_part f l i d p q r u v h = rw (each_more f l i d h) (writes_both p q r (each f 0 (take i l)) (f i (get_or l i d)) u v)

-- ---- parts whose text does not know their number
pub each-flat : {A : Type 0} (f : A → Bytes) (i : ℕ) (l : List A) → each (λ (n : ℕ). f) i l ≡ flat f l
unfolding each
each-flat f i [] = refl
each-flat f i (x ∷ l) = ap (λ (t : Bytes). f x ++ t) (each-flat f (i + 1) l)

-- one more part
pub writes_item : {A : Type 0} (f : A → Bytes) (l : List A) (i : ℕ) (d : A) (p q r : Pen) → Writes p (flat f (take i l)) q → Writes q (f (get_or l i d)) r → i < length l → Writes p (flat f (take (i + 1) l)) r
writes_item f l i d p q r u v h = rw (← each-flat f 0 (take (i + 1) l)) (writes_part (λ (n : ℕ). f) l i d p q r (rw (each-flat f 0 (take i l)) u) v h)
