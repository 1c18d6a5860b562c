-- A text that was measured and written from a room's start, and the test before it.
-- Assumes nothing.
use mathlib.Core.Path.{◌∙◌, ◌≡◌, ap, refl, sym}
use mathlib.Core.Bool.{Bool, ◌&&◌, cond, false, true}
use Prim.Native.Nat.{◌<◌, ◌≤◌, ℕ}
use lib.ListN.{length}
use borrow.Author.Tests.{le-ltb, lt-ltb}
use Rattle.model.specs.declared.Reply.TheVariants.{Done, RoomShort, RuleBroken}
use Rattle.model.specs.Numbers.{Bytes}
use Rattle.model.specs.Rooms as rooms
use Rattle.model.specs.Rules.{plain, rules}
use Rattle.model.specs.Sheets.{Heading, SHEET, VIEW, may_stand, sheet_text, shows}
use Rattle.room.specs.Writing.{Wrote}
use Rattle.room.proofs.RoomLaws.{wrote-written}
use Rattle.rules.specs.Ours.{ours, ours_plain}
use Rattle.store.specs.declared.Store.{Store}
use Rattle.store.specs.Canonical.{canonical}
use Rattle.store.specs.Packed.{unpacked}
use Rattle.writer.specs.Writing.{may_write, writing_of}

-- ---- 14
pub too_long : (room text : Bytes) → length room < length text → rooms.unwritten RoomShort room ≡ rooms.put_into room text
unfolding rooms.put_into
too_long room text h = rw (lt-ltb (length room) (length text) h)

pub it_fits : (room text room' : Bytes) (r : ℕ) → length text ≤ length room → Wrote room 0 text r room'
    → record { reply = Done; length = r; room = room' } ≡ rooms.put_into room text
unfolding rooms.put_into
it_fits room text room' r h w =
    let k = wrote-written w h in
    rw (le-ltb (length room) (length text) h, k.0, k.1)

-- ---- 21
-- a sheet shows a store that is ours and has no hidden field, a view any that is ours
and_right : (a b c : Bool) → ((a && b) && c) ≡ (a && (b && c))
and_right true b c = refl
and_right false b c = refl

and-true : (a b : Bool) → (a && b) ≡ (a && (b && true))
and-true true true = refl
and-true true false = refl
and-true false b = refl

pub sheet_may : (s : Store) → ours_plain s ≡ may_write SHEET s
unfolding ours_plain ours may_write may_stand shows
sheet_may s = and_right (canonical s) (rules 8 (unpacked s)) (plain (unpacked s))

pub view_may : (s : Store) → ours s ≡ may_write VIEW s
unfolding ours may_write may_stand shows
view_may s = and-true (canonical s) (rules 8 (unpacked s))

-- what is left by the test's answer
module _ (h : Heading) (s : Store) (room : Bytes) where
  abbrev told : Bool → rooms.Wrote
  told b = cond b (rooms.put_into room (sheet_text 8 h (unpacked s))) (rooms.unwritten RuleBroken room)

  in_turn : (a b : Bool) → told (a && b) ≡ cond a (told b) (rooms.unwritten RuleBroken room)
  in_turn true b = refl
  in_turn false b = refl

  whole : told (may_write h s) ≡ writing_of h s room
  unfolding may_write writing_of rooms.writing
  whole = in_turn (canonical s) (may_stand 8 h (unpacked s))

  pub rule_broken : may_write h s ≡ false → rooms.unwritten RuleBroken room ≡ writing_of h s room
  rule_broken e = sym (ap told e) ∙ whole

  pub rules-kept : may_write h s ≡ true → rooms.put_into room (sheet_text 8 h (unpacked s)) ≡ writing_of h s room
  rules-kept e = sym (ap told e) ∙ whole
