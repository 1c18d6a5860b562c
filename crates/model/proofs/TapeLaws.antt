-- Demand 3: what C knows of a tape is told by C's view of the store.
-- Assumes nothing.
use mathlib.Core.Path.{◌∙◌, ◌≡◌, ap, ap₂, refl, sym}
use mathlib.Core.Bool.{Bool, false, true}
use mathlib.Core.List.{List, [], ◌∷◌}
use Prim.Native.Nat.{ℕ}
use lib.ListN.{length}
use Rattle.model.specs.declared.Class.{Class}
use Rattle.model.specs.Places.{sure}
use Rattle.model.specs.Classes.{dominates}
use Rattle.model.specs.Parts.{Store}
use Rattle.model.specs.Rules.{rules}
use Rattle.model.specs.View.{view}
use Rattle.model.specs.Rooms.{written}
use Rattle.model.specs.Commands.{Line, client, command, nobodys, read_line, unformed}
use Rattle.model.specs.Answers.{answer_text}
use Rattle.model.specs.Verdicts.{Offer, Verdict, after, answer_bytes, line_store, line_verdict, outcome, verdict, verdict_on}
use Rattle.model.specs.Tapes.{Answered, answered, final, known, known_of, knows, log}
use Rattle.model.specs.Claims.{Demand3}
use Rattle.model.proofs.ViewLaws.{view_again}
use Rattle.model.proofs.Unwinding.{changed_silent, changed_steady, same-judgement}
use Rattle.model.proofs.SoundLaws.{view-keeps}
use Rattle.model.proofs.KeepLaws.{command-keeps}

module _ (w : ℕ) (C : Class) where
  -- ---- one line, on stores that keep the rules
  module _ (room : ℕ) where
    line_same : (l : Line) → sure (dominates C) (client l) ≡ true → (s t : Store) → view C s ≡ view C t → line_verdict w room s l ≡ line_verdict w room t l
    unfolding line_verdict client
    line_same nobodys h s t e = refl
    line_same (unformed c) h s t e = refl
    line_same (command k) h s t e = same-judgement C k w room h s t e

    line_steady : (l : Line) → sure (dominates C) (client l) ≡ true → (s t : Store) → view C s ≡ view C t → view C (line_store w room s l) ≡ view C (line_store w room t l)
    unfolding line_store client
    line_steady nobodys h s t e = e
    line_steady (unformed c) h s t e = e
    line_steady (command k) h s t e = changed_steady C k w room h s t e

    line_silent : (l : Line) → sure (dominates C) (client l) ≡ false → (s : Store) → view C (line_store w room s l) ≡ view C s
    unfolding line_store client
    line_silent nobodys h s = refl
    line_silent (unformed c) h s = refl
    line_silent (command k) h s = changed_silent C k w room h s

  -- ---- one offer
  abbrev Keep : Store → Store → Type 0
  Keep s t = (rules w s ≡ true) × (rules w t ≡ true) × (view C s ≡ view C t)

  verdict-same : (o : Offer) → knows w C o ≡ true → (s t : Store) → Keep s t → verdict_on w s o ≡ verdict_on w t o
  unfolding verdict_on verdict knows
  verdict-same o h s t (p, q, e) = rw (p, q) (line_same (length o.room) (read_line w o.line) h s t e)

  answered-same : (o : Offer) → knows w C o ≡ true → (s t : Store) → Keep s t → answered o (outcome w s o) ≡ answered o (outcome w t o)
  unfolding answered outcome answer_bytes
  answered-same o h s t k = ap (λ (v : Verdict). record { offer = o; reply = v.reply; length = length (answer_text w v.shown); room = written (answer_text w v.shown) o.room }) (verdict-same o h s t k)

  store_steady : (o : Offer) → knows w C o ≡ true → (s t : Store) → Keep s t → view C (outcome w s o).store ≡ view C (outcome w t o).store
  unfolding outcome after knows
  store_steady o h s t (p, q, e) = rw (p, q) (line_steady (length o.room) (read_line w o.line) h s t e)

  store_silent : (o : Offer) → knows w C o ≡ false → (s : Store) → rules w s ≡ true → view C (outcome w s o).store ≡ view C s
  unfolding outcome after knows
  store_silent o h s p = rw p (line_silent (length o.room) (read_line w o.line) h s)

  -- ---- a tape
  abbrev Alike : Store → Store → List Offer → Type 0
  Alike s t os = (known_of w C (log w s os) ≡ log w t (known w C os)) × (view C (final w s os) ≡ view C (final w t (known w C os)))

  tape : (os : List Offer) (s t : Store) → Keep s t → Alike s t os
  unfolding known known_of log final answered
  tape [] s t k = (refl, k.2)
  tape (o ∷ os) s t k = go (knows w C o) refl (tape os)
    where
      go : (b : Bool) → knows w C o ≡ b → ((s t : Store) → Keep s t → Alike s t os) → Alike s t (o ∷ os)
      go true h ih =
          let r = ih (outcome w s o).store (outcome w t o).store (command-keeps w s o k.0, command-keeps w t o k.1, store_steady o h s t k) in
          rw h (
            ap₂ (λ (x : Answered) (l : List Answered). x ∷ l) (answered-same o h s t k) r.0,
            r.1,
          )
      go false h ih = rw h (ih (outcome w s o).store t (command-keeps w s o k.0, k.1, store_silent o h s k.0 ∙ k.2))

pub demand_3 : Demand3
demand_3 w C os s p = tape w C os s (view C s) (p, view-keeps w C s p, sym (view_again C s))
