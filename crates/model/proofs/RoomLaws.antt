-- Rooms: no room grows or shrinks, and what reading and writing say of sheets is in the order of the table.
-- Assumes nothing.
use mathlib.Core.Path.{◌≡◌, ap, refl, sym}
use mathlib.Core.Logic.{◌↔◌, inl, inr, ⊎_elim}
use mathlib.Core.Bool.{Bool, cond, false, not, true}
use mathlib.Core.List.{List, [], ◌∷◌}
use Rattle.std.specs.Prelude.{Option, None, Some}
use Prim.Native.Nat.{◌<◌, ◌≤◌, suc, ℕ}
use native.Mathlib.Omega.{arith}
use lib.Dec.{leb, ltb}
use lib.ListN.{length}
use borrow.Author.Tests.{leb-false, leb-true, ltb-false}
use Rattle.model.specs.declared.Class.{Class}
use Rattle.model.specs.declared.Field.{Field}
use Rattle.model.specs.declared.Reply.{Reply}
use Rattle.model.specs.declared.Reply.TheVariants.{BadSheet, Done, RoomShort, RuleBroken, SheetLong}
use Rattle.model.specs.declared.Value.TheVariants.{Hidden}
use Rattle.model.specs.Places.{all, and_then, at}
use Rattle.model.specs.Values.{is_hidden}
use Rattle.model.specs.Parts.{Directory, Row, Store, Table, table_at}
use Rattle.model.specs.Rules.{directory_plain, field_plain, plain, row_plain, rules, table_plain}
use Rattle.model.specs.View.{view}
use Rattle.model.specs.Numbers.{Bytes}
use Rattle.model.specs.Sheets.{Heading, SHEET, judged, may_stand, read_sheet, reading, refused, sheet_text, shows, taken}
use Rattle.model.specs.Rooms.{put_into, unwritten, writing, written}
use Rattle.model.specs.Commands.{Action, Line, command, delete, insert, nobodys, read_line, select, unformed, update}
use Rattle.model.specs.Answers.{answer, answer_text}
use Rattle.model.specs.Checks.{checks, first_of, table_checks}
use Rattle.model.specs.Verdicts.{accept, answer_bytes, decided, judge, judgement, line_verdict, outcome, says, verdict, verdict_on}
use Rattle.model.specs.Conditions.{Every, First, Rows, There, reading_rows}
use Rattle.model.specs.Claims.{AnswerRoom, NothingHidden, ReadingExactly, SheetRoom, WritingExactly}
use Rattle.model.proofs.Tests.{and-fst, and-snd, not-both, not-true}
use Rattle.model.proofs.OptionLaws.{nothing_is}
use Rattle.model.proofs.AllLaws.{all_in-at}
use Rattle.model.proofs.Reflects.{clash, ltb_reflects, not_reflects}
use Rattle.model.proofs.ValueTests.{hidden_reflects}
use Rattle.model.proofs.Clear.{accept-accepts, checks_refuse, clear}
use Rattle.model.proofs.TableLaws.{row_first, row_last}
use Rattle.model.proofs.SheetLaws.{round_trip}

-- ---- lengths
-- a text that fits leaves the room as long as it was
written-length : (text room : Bytes) → length text ≤ length room → length (written text room) ≡ length room
unfolding written
written-length [] room h = refl
written-length (b ∷ text) [] h = absurd (omega arith)
written-length (b ∷ text) (a ∷ room) h = ap suc (written-length text room (omega arith))

pub sheet-room : SheetRoom
unfolding writing put_into unwritten
sheet-room w h s room = go (may_stand w h s) (ltb (length room) (length (sheet_text w h s))) refl
  where
    go : (a b : Bool) → ltb (length room) (length (sheet_text w h s)) ≡ b
        → length (cond a (cond b (unwritten RoomShort room) (record { reply = Done; length = length (sheet_text w h s); room = written (sheet_text w h s) room })) (unwritten RuleBroken room)).room ≡ length room
    go true true e = refl
    go true false e = written-length (sheet_text w h s) room (ltb-false (length room) (length (sheet_text w h s)) e)
    go false b e = refl

-- an answer fits the room that it was judged by
judge-fits : (w room : ℕ) (c : Class) (a : Action) (o : Option Table) → length (answer_text w (judge w room c a o).shown) ≤ room
unfolding judge decided says accept table_checks checks answer_text
judge-fits w room c a None = omega arith
judge-fits w room c a (Some t) = go (first_of (table_checks w room c a t)) refl
  where
    accepted_fits : (a : Action) → first_of (table_checks w room c a t) ≡ None → length (answer_text w (accept a t).shown) ≤ room
    accepted_fits (insert gs) e = omega arith
    accepted_fits (delete is) e = omega arith
    accepted_fits (update es) e = omega arith
    accepted_fits (select q) e = let k = clear (table_checks w room c (select q) t) (accept (select q) t) (checks_refuse w room c (select q) t) (rw e (accept-accepts (select q) t)) in ltb-false room (length (answer_text w (answer q t.rows))) k.1.1.1.0

    go : (o : Option Reply) → first_of (table_checks w room c a t) ≡ o → length (answer_text w (decided o (accept a t)).shown) ≤ room
    go None e = accepted_fits a e
    go (Some r) e = omega arith

verdict-fits : (w room : ℕ) (s : Store) (l : Line) → length (answer_text w (verdict w room s l).shown) ≤ room
unfolding verdict line_verdict says judgement answer_text
verdict-fits w room s l = go (rules w s) l
  where
    go : (b : Bool) (l : Line) → length (answer_text w (cond b (line_verdict w room s l) (says RuleBroken)).shown) ≤ room
    go true nobodys = omega arith
    go true (unformed c) = omega arith
    go true (command k) = judge-fits w room k.clearance k.action (table_at k.directory k.table (view k.clearance s))
    go false l = omega arith

pub answer-room : AnswerRoom
unfolding outcome answer_bytes verdict_on
answer-room w s o = written-length (answer_text w (verdict w (length o.room) s (read_line w o.line)).shown) o.room (verdict-fits w (length o.room) s (read_line w o.line))

-- ---- the rows for sheets
pub writing_exactly : WritingExactly
unfolding writing put_into unwritten
writing_exactly w h s room r =
    rw (turned (may_stand w h s) (ltb (length room) (length (sheet_text w h s))))
    (row_first (not (may_stand w h s)) _ ((RoomShort, length room < length (sheet_text w h s)) ∷ last) RuleBroken _ r (not_reflects (λ e. e, λ e. e))
    (row_first (ltb (length room) (length (sheet_text w h s))) _ last RoomShort Done r (ltb_reflects (length room) (length (sheet_text w h s))) (row_last Done r)))
  where
    last : Rows
    last = (Done, Unit {0}) ∷ []

    turned : (a b : Bool)
        → (cond a (cond b (unwritten RoomShort room) (record { reply = Done; length = length (sheet_text w h s); room = written (sheet_text w h s) room })) (unwritten RuleBroken room)).reply
        ≡ cond (not a) RuleBroken (cond b RoomShort Done)
    turned true true = refl
    turned true false = refl
    turned false b = refl

refused-same : {x y : Reply} → refused x ≡ refused y → x ≡ y
refused-same e = cc

taken_refused : {h : Heading} {s : Store} {r : Reply} → ¬ (taken h s ≡ refused r)
taken_refused e = clash cc

pub reading_exactly : ReadingExactly
unfolding reading judged
reading_exactly w bs r = long (leb (length bs) 65536) refl
  where
    late : (o : Option (Heading × Store)) → (judged w o ≡ refused r)
        ↔ First r ((BadSheet, ¬ There (λ (x : Heading × Store). Unit {0}) o) ∷ (RuleBroken, There (λ (x : Heading × Store). ¬ (may_stand w x.0 x.1 ≡ true)) o) ∷ [])
    late None = (
      λ e. inl (sym (refused-same e), λ t. nothing_is t.1),
      ⊎_elim (λ k. ap refused (sym k.0)) (λ k. absurd (k.0 (λ t. nothing_is t.1))),
    )
    late (Some x) = stands (may_stand w x.0 x.1) refl
      where
        there : ¬ (¬ There (λ (y : Heading × Store). Unit {0}) (Some x))
        there h = h (x, refl, tt)

        kept : may_stand w x.0 x.1 ≡ true → ¬ There (λ (y : Heading × Store). ¬ (may_stand w y.0 y.1 ≡ true)) (Some x)
        kept p (y, q, h) = let z : x ≡ y = cc in h (rw z at p)

        stands : (b : Bool) → may_stand w x.0 x.1 ≡ b → (cond b (taken x.0 x.1) (refused RuleBroken) ≡ refused r)
            ↔ First r ((BadSheet, ¬ There (λ (y : Heading × Store). Unit {0}) (Some x)) ∷ (RuleBroken, There (λ (y : Heading × Store). ¬ (may_stand w y.0 y.1 ≡ true)) (Some x)) ∷ [])
        stands true p = (
          λ e. absurd (taken_refused e),
          ⊎_elim (λ k. absurd (there k.1)) (λ k. ⊎_elim (λ m. absurd (kept p m.1)) (λ m. absurd m.1) k.1),
        )
        stands false p = (
          λ e. inr (there, inl (sym (refused-same e), (x, refl, λ q. not-both (may_stand w x.0 x.1) q p))),
          ⊎_elim (λ k. absurd (there k.1)) (λ k. ⊎_elim (λ m. ap refused (sym m.0)) (λ m. absurd m.1) k.1),
        )

    long : (b : Bool) → leb (length bs) 65536 ≡ b → (cond b (judged w (read_sheet w bs)) (refused SheetLong) ≡ refused r) ↔ First r (reading_rows w bs)
    long true p =
        let n = leb-true (length bs) 65536 p in (
          λ e. inr (λ h. absurd (omega arith), (late (read_sheet w bs)).0 e),
          ⊎_elim (λ k. let m : 65536 < length bs = k.1 in absurd (omega arith)) (λ k. (late (read_sheet w bs)).1 k.1),
        )
    long false p =
        let n = leb-false (length bs) 65536 p in (
          λ e. inl (sym (refused-same e), omega arith),
          ⊎_elim (λ k. ap refused (sym k.0)) (λ k. absurd (k.0 (omega arith))),
        )

-- ---- what SHEET adds to the rules
all_every : {A : Type 0} (p : A → Bool) (P : A → Type 0) → ((a : A) → p a ≡ true → P a) → (l : List A) → all p l ≡ true → Every P l
all_every p P each [] e = tt
all_every p P each (a ∷ l) e = (each a (and-fst (p a) (all p l) e), all_every p P each l (and-snd (p a) (all p l) e))

row_plain_lem : (r : Row) → row_plain r ≡ true → (j : ℕ) (f : Field) → at j r.fields ≡ Some f → ¬ (f.value ≡ Hidden)
unfolding row_plain field_plain
row_plain_lem r e j f q h = not-both (is_hidden f.value) ((hidden_reflects f.value).1 h) (not-true (is_hidden f.value) (all_in-at field_plain j r.fields e f q))

store-plain : (s : Store) → plain s ≡ true → (d n : ℕ) (t : Table) → table_at d n s ≡ Some t → table_plain t ≡ true
unfolding plain directory_plain table_at
store-plain s e d n t q = go (at d s) refl q
  where
    go : (o : Option Directory) → at d s ≡ o → and_then o (λ (x : Directory). at n x.tables) ≡ Some t → table_plain t ≡ true
    go None p q = nothing_is q
    go (Some x) p q = all_in-at table_plain n x.tables (all_in-at directory_plain d s e x p) t q

pub nothing_hidden : NothingHidden
unfolding table_plain may_stand shows
nothing_hidden w bs s e d n t q =
    let stands = ((round_trip w bs SHEET s).0 e).0 in
    all_every row_plain _ row_plain_lem t.rows (store-plain s (and-snd (rules w s) (plain s) stands) d n t q)
