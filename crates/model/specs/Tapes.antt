-- Tapes: lines with their rooms, one after another over one store; and the part of a tape that a clearance may know of.
-- 01's demand on tapes is stated over these (Claims).
-- Assumes nothing.
use Rattle.std.specs.Prelude.{Bool, List, [], ◌∷◌, ℕ}
use Rattle.model.specs.declared.Class.{Class}
use Rattle.model.specs.declared.Reply.{Reply}
use Rattle.model.specs.Places.{when, sure, gather}
use Rattle.model.specs.Classes.{dominates}
use Rattle.model.specs.Parts.{Store}
use Rattle.model.specs.Numbers.{Bytes}
use Rattle.model.specs.Commands.{client, read_line}
use Rattle.model.specs.Verdicts.{Offer, Outcome, outcome}

-- an offer with what it was answered
pub record Answered : Type 0 where
  pub offer : Offer
  pub reply : Reply
  pub length : ℕ
  pub room : Bytes

unfoldable pub answered : Offer → Outcome → Answered
answered o x = record { offer = o; reply = x.reply; length = x.length; room = x.room }

module _ (w : ℕ) where
  -- what each line is answered, in order
  unfoldable pub log : Store → List Offer → List Answered
  log s [] = []
  log s (o ∷ os) = answered o (outcome w s o) ∷ log (outcome w s o).store os

  -- the store at the end
  unfoldable pub final : Store → List Offer → Store
  final s [] = s
  final s (o ∷ os) = final (outcome w s o).store os

  -- a line whose readable clearance C dominates. One with no readable clearance is nobody's
  unfoldable pub knows : Class → Offer → Bool
  knows C o = sure (dominates C) (client (read_line w o.line))

  unfoldable pub known : Class → List Offer → List Offer
  known C os = gather (λ (o : Offer). when (knows C o) o) os

  unfoldable pub known_of : Class → List Answered → List Answered
  known_of C xs = gather (λ (x : Answered). when (knows C x.offer) x) xs
