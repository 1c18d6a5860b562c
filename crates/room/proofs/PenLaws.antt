-- Texts written one after another by a pen.
-- Assumes nothing.
use Rattle.std.proofs.Common.{◌≡◌, ◌∙◌, ap, refl, sym, Bool, false, true, [], ◌++◌, ◌∷◌, ℕ, suc, ◌+◌, ◌<◌, ◌≤◌, max, length, leb, arith, add-zero, append-nil, append_assoc, get_or, length-append, subst, take, map, List, Bor}
use Rattle.std.proofs.lemmas.List.{map-append, take_more}
use Rattle.model.specs.Numbers.{Bytes}
use Rattle.room.specs.declared.Pen.{Pen}
use Rattle.room.specs.Writing.{Writes, most}
use Rattle.room.proofs.RoomLaws.{◌then◌, wrote_nothing}

-- no text
pub writes_none : (p : Pen) → length p.room.now ≤ most → Writes p [] p
unfolding Writes
writes_none p h = record { same_room = refl; wrote = wrote_nothing p.room.now p.place h p.in_range }

-- one text and then another are both
pub writes_both : (p q r : Pen) (a b : Bytes) → Writes p a q → Writes q b r → Writes p (a ++ b) r
unfolding Writes
writes_both p q r a b u v =
    record {
      same_room = v.same_room ∙ u.same_room;
      wrote = u.wrote then v.wrote;
    }

-- ---- a loop: of the text, `rest` is left to be written by the pen as it is now
pub record Left (old : Pen) (text : Bytes) (now : Pen) (rest : Bytes) : Type 0 where
  pub done : Bytes
  pub written : Writes old done now
  pub whole : done ++ rest ≡ text

pub left_all : (p : Pen) (text : Bytes) → length p.room.now ≤ most → Left p text p text
left_all p text h = record { done = []; written = writes_none p h; whole = refl }

pub left_none : {p q : Pen} {text : Bytes} → Left p text q [] → Writes p text q
left_none l = rw (← l.whole) (rw (append-nil l.done) l.written)

-- a is written, and r is left
pub left_less : {p q : Pen} {text rest : Bytes} (q₁ : Pen) (a r : Bytes) → Left p text q rest → Writes q a q₁ → rest ≡ a ++ r → Left p text q₁ r
left_less {p} {q} {text} {rest} q₁ a r l w e =
    record { done = l.done ++ a; written = writes_both p q q₁ l.done a l.written w; whole = append_assoc l.done a r ∙ ap (λ (x : Bytes). l.done ++ x) (sym e) ∙ l.whole }

-- nothing is written
pub left_kept : {p q : Pen} {text rest : Bytes} {r : Bytes} → Left p text q rest → rest ≡ r → Left p text q r
left_kept l e = record { done = l.done; written = l.written; whole = rw (← e) l.whole }

-- one more byte of a text
pub writes_next : (p q r : Pen) (text : Bytes) (i x : ℕ) → Writes p (take i text) q → Writes q (x ∷ []) r → i < length text → x ≡ get_or text i 0 → Writes p (take (i + 1) text) r
writes_next p q r text i x u v h e = rw (take_more text i 0 h) (writes_both p q r (take i text) (get_or text i 0 ∷ []) u (subst (λ (y : ℕ). Writes q (y ∷ []) r) e v))

-- one more byte of those that an iterator yields
pub writes_more : (p q r : Pen) (l : List (Bor ℕ)) (x : Bor ℕ) → Writes p (map (λ (y : Bor ℕ). y.now) l) q → Writes q (x.now ∷ []) r → Writes p (map (λ (y : Bor ℕ). y.now) (l ++ x ∷ [])) r
writes_more p q r l x u v = rw (map-append (λ (y : Bor ℕ). y.now) l (x ∷ [])) (writes_both p q r (map (λ (y : Bor ℕ). y.now) l) (x.now ∷ []) u v)

-- ---- so many texts are one
pub writes_two : (p q r : Pen) (a b all : Bytes) → Writes p a q → Writes q b r → a ++ b ≡ all → Writes p all r
writes_two p q r a b all h1 h2 is = rw (← is) (writes_both p q r a b h1 h2)

pub writes_three : (p q r s : Pen) (a b c all : Bytes) → Writes p a q → Writes q b r → Writes r c s → a ++ (b ++ c) ≡ all → Writes p all s
writes_three p q r s a b c all h1 h2 h3 is =
    writes_two p q s a (b ++ c) all h1 (writes_both q r s b c h2 h3) is

pub writes_four : (p q r s t : Pen) (a b c d all : Bytes) → Writes p a q → Writes q b r → Writes r c s → Writes s d t → a ++ (b ++ (c ++ d)) ≡ all → Writes p all t
writes_four p q r s t a b c d all h1 h2 h3 h4 is =
    writes_three p q r t a b (c ++ d) all h1 h2 (writes_both r s t c d h3 h4) is

pub writes_five : (p q r s t u : Pen) (a b c d e all : Bytes) → Writes p a q → Writes q b r → Writes r c s → Writes s d t → Writes t e u → a ++ (b ++ (c ++ (d ++ e))) ≡ all → Writes p all u
writes_five p q r s t u a b c d e all h1 h2 h3 h4 h5 is =
    writes_four p q r s u a b c (d ++ e) all h1 h2 h3 (writes_both s t u d e h4 h5) is

pub writes_six : (p q r s t u v : Pen) (a b c d e f all : Bytes) → Writes p a q → Writes q b r → Writes r c s → Writes s d t → Writes t e u → Writes u f v → a ++ (b ++ (c ++ (d ++ (e ++ f)))) ≡ all → Writes p all v
writes_six p q r s t u v a b c d e f all h1 h2 h3 h4 h5 h6 is =
    writes_five p q r s t v a b c d (e ++ f) all h1 h2 h3 h4 (writes_both t u v e f h5 h6) is

-- what a function that only calls writers needs
pub ruleset writes = (writes_none, writes_two, writes_three, writes_four, writes_five, writes_six, append_assoc, append-nil)
