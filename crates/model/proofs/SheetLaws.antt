-- The round trip: a store written and read again is that store; a text that is read as a store is the one it is written as; and what is
-- read has classes and values of ours.
-- Assumes nothing.
use mathlib.Core.Path.{◌∙◌, ◌≡◌, ap, ap₂, refl, subst, sym}
use mathlib.Core.Bool.{Bool, cond, false, true}
use mathlib.Core.List.{List, [], ◌++◌, ◌∷◌, append_assoc, append-nil, map}
use Rattle.std.specs.Prelude.{Option, None, Some}
use Prim.Native.Nat.{◌≤◌, ℕ}
use native.Mathlib.Omega.{arith}
use lib.Dec.{leb, ltb}
use lib.ListN.{drop, length}
use lib.Seq.{take-append_seam}
use borrow.Author.Tests.{le-leb, leb-true}
use Rattle.model.specs.declared.Reply.{Reply}
use Rattle.model.specs.declared.Reply.TheVariants.{Done, RoomShort, RuleBroken, SheetLong}
use Rattle.model.specs.Places.{and_then, nones}
use Rattle.model.specs.Parts.{Store}
use Rattle.model.specs.Rules.{ruled, rules, sound}
use Rattle.model.specs.Numbers.{Bytes, bytes}
use Rattle.model.specs.Lines.{ended, fields_of, is_text, line_of, lines, unlines}
use Rattle.model.specs.Records.{Record, place, records}
use Rattle.model.specs.Sheets.{Heading, SHEET, VIEW, heading_text, judged, may_stand, read_heading, read_lines, read_on, read_record, read_sheet, read_store, reading, record_line, refused, sheet_text, shows, store_text, taken}
use Rattle.model.specs.Rooms.{put_into, unwritten, writing, written}
use Rattle.model.specs.Conditions.{Every}
use Rattle.model.specs.Claims.{RoundTrip, WrittenReads}
use Rattle.model.proofs.Tests.{and-fst, and-snd}
use Rattle.model.proofs.OptionLaws.{nothing_is, then_some}
use Rattle.model.proofs.LineLaws.{Free, line-fields, lines-unlines, text_is, unlines-lines}
use Rattle.model.proofs.RecordLaws.{RecordIn, line-there, record-back, record-free, record-sound}
use Rattle.model.proofs.PlacingLaws.{Shape, place_adds, place-run, run}
use Rattle.model.proofs.ShapeLaws.{ruled_shape}
use Rattle.model.proofs.RangeLaws.{records_in, records-sound}

module _ (w : ℕ) where
  -- ---- read, then written
  -- reading on adds the records of the lines behind those that stand, and they are in range
  read_on_made : (ls : List Bytes) (s t : Store) → read_on w ls s ≡ Some t
      → (rs : List Record) × (records t ≡ records s ++ rs) × (map (record_line w) rs ≡ ls) × Every (RecordIn w) rs
  unfolding read_on record_line
  read_on_made [] s t e = let q : s ≡ t = cc in ([], rw q (sym (append-nil (records t))), refl, tt)
  read_on_made (l ∷ ls) s t e =
      let (r, p, e₁) = then_some (read_record w (fields_of l)) (λ (r : Record). and_then (place r s) (read_on w ls)) t e in
      let (x, q, e₂) = then_some (place r s) (read_on w ls) t e₁ in
      let (rs, a, b, h) = read_on_made ls x t e₂ in
      let line : record_line w r ≡ l = ap line_of (record-back w (fields_of l) r p) ∙ line-fields l in (
        r ∷ rs,
        a ∙ rw (place_adds r s x q) (append_assoc (records s) (r ∷ []) rs),
        ap₂ (λ (y : Bytes) (ys : List Bytes). y ∷ ys) line b,
        (record-sound w (fields_of l) r p, h),
      )

  -- lines that are read as a store are those of its records, and these are in range
  pub store-made : (ls : List Bytes) (s : Store) → read_store w ls ≡ Some s → (map (record_line w) (records s) ≡ ls) × Every (RecordIn w) (records s)
  unfolding read_store records
  store-made ls s e =
      let (rs, a, b, h) = read_on_made ls (nones 4) s e in
      subst (λ (xs : List Record). (map (record_line w) xs ≡ ls) × Every (RecordIn w) xs) (sym a) (b, h)

  pub store_text_lem : (ls : List Bytes) (s : Store) → read_store w ls ≡ Some s → store_text w s ≡ unlines ls
  unfolding store_text
  store_text_lem ls s e = ap unlines (store-made ls s e).0

  -- what is read has classes and values of ours
  pub read-sound : (ls : List Bytes) (s : Store) → read_store w ls ≡ Some s → sound w s ≡ true
  read-sound ls s e = records-sound w s (store-made ls s e).1

  -- ---- written, then read
  read_on_run : (rs : List Record) (s : Store) → Every (RecordIn w) rs → read_on w (map (record_line w) rs) s ≡ run place rs s
  unfolding read_on
  read_on_run [] s h = refl
  read_on_run (r ∷ rs) s h = rw (line-there w r h.0) (go (place r s) (λ x. read_on_run rs x h.1))
    where
      go : (o : Option Store) → ((x : Store) → read_on w (map (record_line w) rs) x ≡ run place rs x) → and_then o (read_on w (map (record_line w) rs)) ≡ and_then o (run place rs)
      go None ih = refl
      go (Some x) ih = ih x

  pub store-read : (s : Store) → Shape s → Every (RecordIn w) (records s) → read_store w (map (record_line w) (records s)) ≡ Some s
  unfolding read_store
  store-read s h k = read_on_run (records s) (nones 4) k ∙ place-run s h

  pub lines-free : (rs : List Record) → Every (Free 10) (map (record_line w) rs)
  lines-free [] = tt
  lines-free (r ∷ rs) = (record-free w r, lines-free rs)

-- ---- sheets
refused-taken {ℓ} : {X : Type ℓ} {r : Reply} {h : Heading} {s : Store} → refused r ≡ taken h s → X
refused-taken e = absurd (let z : ◌≡◌ {A = ℕ} 0 1 = cc in omega arith)

heading_there : (h : Heading) → read_heading (heading_text h) ≡ Some h
unfolding read_heading heading_text is_text
heading_there SHEET = refl
heading_there VIEW = refl

heading_back : (l : Bytes) (h : Heading) → read_heading l ≡ Some h → heading_text h ≡ l
unfolding read_heading heading_text
heading_back l h e = go (is_text l (bytes "SHEET")) (is_text l (bytes "VIEW")) refl refl e
  where
    go : (a b : Bool) → is_text l (bytes "SHEET") ≡ a → is_text l (bytes "VIEW") ≡ b → cond a (Some SHEET) (cond b (Some VIEW) None) ≡ Some h → heading_text h ≡ l
    go true b p q e = let z : SHEET ≡ h = cc in rw (← z) (sym (text_is l (bytes "SHEET") p))
    go false true p q e = let z : VIEW ≡ h = cc in rw (← z) (sym (text_is l (bytes "VIEW") q))
    go false false p q e = nothing_is e

heading_free : (h : Heading) → Free 10 (heading_text h)
unfolding heading_text
heading_free SHEET = (refl, (refl, (refl, (refl, (refl, tt)))))
heading_free VIEW = (refl, (refl, (refl, (refl, tt))))

module _ (w : ℕ) where
  -- a sheet's lines are its heading and the lines of its records
  sheet_lines_lem : (h : Heading) (s : Store) → sheet_text w h s ≡ unlines (heading_text h ∷ map (record_line w) (records s))
  unfolding sheet_text store_text unlines
  sheet_lines_lem h s = refl

  -- written, then read
  pub sheet-there : (h : Heading) (s : Store) → rules w s ≡ true → read_sheet w (sheet_text w h s) ≡ Some (h, s)
  unfolding read_sheet read_lines rules
  sheet-there h s e =
      let r = and-fst (ruled s) (sound w s) e in
      let k = records_in w s r (and-snd (ruled s) (sound w s) e) in
      let free = unlines-lines (heading_text h ∷ map (record_line w) (records s)) (heading_free h, lines-free w (records s)) in
      rw (sheet_lines_lem h s, free, heading_there h, store-read w s (ruled_shape s r) k)

  -- heading and store were read
  pub sheet-parts : {h : Heading} {s : Store} (l : Bytes) (ls : List Bytes) → read_lines w (l ∷ ls) ≡ Some (h, s) → (read_heading l ≡ Some h) × (read_store w ls ≡ Some s)
  unfolding read_lines
  sheet-parts {h} {s} l ls e =
      let (g, p, e₁) = then_some (read_heading l) _ (h, s) e in
      let (t, q, e₂) = then_some (read_store w ls) _ (h, s) e₁ in
      let z : ◌≡◌ {A = Heading × Store} (g, t) (h, s) = cc in
      (p ∙ ap (λ (x : Heading × Store). Some x.0) z, q ∙ ap (λ (x : Heading × Store). Some x.1) z)

  -- read, then written: whatever the rules say
  pub sheet-back : (bs : Bytes) (h : Heading) (s : Store) → read_sheet w bs ≡ Some (h, s) → sheet_text w h s ≡ bs
  unfolding read_sheet
  sheet-back bs h s e = let (ls, p, q) = then_some (lines bs) (read_lines w) (h, s) e in go ls q ∙ lines-unlines bs ls p
    where
      go : (ls : List Bytes) → read_lines w ls ≡ Some (h, s) → sheet_text w h s ≡ unlines ls
      go [] e = unfold read_lines in nothing_is e
      go (l ∷ ls) e = let (p, q) = sheet-parts l ls e in unfold sheet_text unlines in ap₂ (λ (x y : Bytes). ended x ++ y) (heading_back l h p) (store_text_lem w ls s q)

  -- ---- reading, with its refusals
  -- a text is taken where it is of the form and may stand
  taken-there : (bs : Bytes) (h : Heading) (s : Store) → may_stand w h s ≡ true → length bs ≤ 65536 → sheet_text w h s ≡ bs → reading w bs ≡ taken h s
  unfolding reading judged may_stand
  taken-there bs h s m n q = rw (le-leb (length bs) 65536 n, ← q, sheet-there h s (and-fst (rules w s) (shows h s) m), m)

  -- and only there
  judged-back : (o : Option (Heading × Store)) (h : Heading) (s : Store) → judged w o ≡ taken h s → (may_stand w h s ≡ true) × (o ≡ Some (h, s))
  unfolding judged
  judged-back None h s e = refused-taken e
  judged-back (Some x) h s e = go (may_stand w x.0 x.1) refl e
    where
      go : (t : Bool) → may_stand w x.0 x.1 ≡ t → cond t (taken x.0 x.1) (refused RuleBroken) ≡ taken h s → (may_stand w h s ≡ true) × (Some x ≡ Some (h, s))
      go true p e =
          let i : x.0 ≡ h = cc in
          let j : x.1 ≡ s = cc in
          (ap₂ (may_stand w) (sym i) (sym j) ∙ p, λ k. Some (i k, j k))
      go false p e = refused-taken e

  taken_back : (bs : Bytes) (h : Heading) (s : Store) → reading w bs ≡ taken h s → (may_stand w h s ≡ true) × (length bs ≤ 65536) × (sheet_text w h s ≡ bs)
  unfolding reading
  taken_back bs h s e = go (leb (length bs) 65536) refl e
    where
      go : (t : Bool) → leb (length bs) 65536 ≡ t → cond t (judged w (read_sheet w bs)) (refused SheetLong) ≡ taken h s → (may_stand w h s ≡ true) × (length bs ≤ 65536) × (sheet_text w h s ≡ bs)
      go true p e = let (m, q) = judged-back (read_sheet w bs) h s e in (m, leb-true (length bs) 65536 p, sheet-back bs h s q)
      go false p e = refused-taken e

-- a sheet that was written may stand, and it is there from the room's start
pub written_done : (w : ℕ) (h : Heading) (s : Store) (room : Bytes) → (writing w h s room).reply ≡ Done
    → (may_stand w h s ≡ true) × (writing w h s room ≡ record { reply = Done; length = length (sheet_text w h s); room = written (sheet_text w h s) room })
unfolding writing put_into unwritten
written_done w h s room e = go (may_stand w h s) (ltb (length room) (length (sheet_text w h s))) refl refl e
  where
    go : (a b : Bool) → may_stand w h s ≡ a → ltb (length room) (length (sheet_text w h s)) ≡ b → (writing w h s room).reply ≡ Done
        → (may_stand w h s ≡ true) × (writing w h s room ≡ record { reply = Done; length = length (sheet_text w h s); room = written (sheet_text w h s) room })
    go true true p q e = absurd (let y : RoomShort ≡ Done = rw (p, q) at e in let z : ◌≡◌ {A = ℕ} 0 1 = cc in omega arith)
    go true false p q e = (p, rw (p, q))
    go false b p q e = absurd (let y : RuleBroken ≡ Done = rw p at e in let z : ◌≡◌ {A = ℕ} 0 1 = cc in omega arith)

-- ---- the claims
pub round_trip : RoundTrip
round_trip w bs h s = (taken_back w bs h s, λ k. taken-there w bs h s k.0 k.1 k.2)

pub written-reads : WrittenReads
unfolding written
written-reads w h s room e n =
    let (m, q) = written_done w h s room e in
    let text = sheet_text w h s in
    rw q (rw (take-append_seam text (drop (length text) room)) (taken-there w text h s m (rw q at n) refl))
