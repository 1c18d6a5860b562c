-- Texts written one after another, and from a room's start.
-- Assumes nothing.
use mathlib.Core.Path.{◌∙◌, ◌≡◌, ap, refl, sym}
use mathlib.Core.Bool.{Bool, false, true}
use mathlib.Core.List.{[], ◌++◌, ◌∷◌, append-nil, append_assoc}
use Prim.Native.Nat.{◌+◌, ◌<◌, ◌≤◌, min, suc, ℕ}
use native.Mathlib.Nat.{add-suc, add-zero, suc-add, zero-add}
use native.Mathlib.Omega.{arith}
use lib.Dec.{leb}
use lib.ListN.{length, length-append, set}
use lib.Seq.{set_out, sets, sets-eq}
use borrow.Author.Tests.{leb-false, leb-true}
use Rattle.model.specs.Numbers.{Bytes}
use Rattle.model.specs.Rooms.{written}
use Rattle.room.specs.Writing.{Wrote, most}

-- ---- two texts
sets_append : (l : Bytes) (i : ℕ) (a b : Bytes) → sets l i (a ++ b) ≡ sets (sets l i a) (i + length a) b
sets_append l i [] b = rw add-zero
sets_append l i (x ∷ a) b = sets_append (set l i x) (suc i) a b ∙ rw (suc-add i (length a), add-suc i (length a))

-- past the end nothing is written
sets_past : (l : Bytes) (i : ℕ) (a : Bytes) → length l ≤ i → sets l i a ≡ l
sets_past l i [] h = refl
sets_past l i (x ∷ a) h = rw (set_out l i x h) (sets_past l (suc i) a (omega arith))

-- so a place that is no usize may be given as the largest
sets_most : (l : Bytes) (i : ℕ) (a : Bytes) → length l ≤ most → sets l (min i most) a ≡ sets l i a
sets_most l i a h = go (leb i most) refl
  where
    go : (t : Bool) → leb i most ≡ t → sets l (min i most) a ≡ sets l i a
    go true p =
        let q : i ≤ most = leb-true i most p in
        let e : min i most ≡ i = omega arith in
        rw e
    go false p =
        let q : most < i = leb-false i most p in
        let e : min i most ≡ most = omega arith in
        rw e (sets_past l most a h ∙ sym (sets_past l i a (omega arith)))

module _ {l l₁ l₂ : Bytes} {at p q : ℕ} {a b : Bytes} where
  -- one text and then another are both
  pub ◌then◌ : Wrote l at a p l₁ → Wrote l₁ p b q l₂ → Wrote l at (a ++ b) q l₂
  ◌then◌ u v =
      let e : sets l₁ p b ≡ sets l₁ (at + length a) b = rw u.next (sets_most l₁ (at + length a) b v.short) in
      record {
        short = u.short;
        next = omega (arith, u.next, v.next, length-append a b);
        room_is = v.room_is ∙ e ∙ rw u.room_is (sym (sets_append l at a b));
      }

infixr 20 ◌then◌
-- no text
pub wrote_nothing : (l : Bytes) (at : ℕ) → length l ≤ most → at ≤ most → Wrote l at [] at l
wrote_nothing l at h k = record { short = h; next = omega arith; room_is = refl }

-- ---- a loop: of the text, `rest` is left to be written from p into the present room
pub record LeftIn (room : Bytes) (at : ℕ) (text : Bytes) (p : ℕ) (room' : Bytes) (rest : Bytes) : Type 0 where
  pub done : Bytes
  pub wrote : Wrote room at done p room'
  pub whole : done ++ rest ≡ text

module _ {l : Bytes} {at : ℕ} {text : Bytes} where
  pub in_all : length l ≤ most → at ≤ most → LeftIn l at text at l text
  in_all h k = record { done = []; wrote = wrote_nothing l at h k; whole = refl }

  pub in_none : {p : ℕ} {l₁ : Bytes} → LeftIn l at text p l₁ [] → Wrote l at text p l₁
  in_none h = rw (← h.whole, append-nil h.done) h.wrote

  -- a is written, and r is left
  pub in_less : {p q : ℕ} {l₁ l₂ rest : Bytes} (a r : Bytes) → LeftIn l at text p l₁ rest → Wrote l₁ p a q l₂ → rest ≡ a ++ r → LeftIn l at text q l₂ r
  in_less a r h w e = record { done = h.done ++ a; wrote = h.wrote then w; whole = append_assoc h.done a r ∙ ap (λ (x : Bytes). h.done ++ x) (sym e) ∙ h.whole }

-- ---- from a room's start
-- a text that fits stands there, and the room's other bytes stay
pub sets_written : (room text : Bytes) → length text ≤ length room → sets room 0 text ≡ written text room
unfolding written
sets_written room text h = sets-eq text room 0 (omega arith) ∙ rw (zero-add (length text))

module _ {room text room' : Bytes} {r : ℕ} (w : Wrote room 0 text r room') where
  pub wrote-long : r ≡ min (length text) most
  wrote-long = omega (arith, w.next)

  pub wrote-written : length text ≤ length room → (r ≡ length text) × (room' ≡ written text room)
  wrote-written h = (omega (arith, w.next, w.short), w.room_is ∙ sets_written room text h)
