-- The theorems: a proof of each claim of specs/Claims.antt.
-- Assumes nothing.
use Rattle.model.specs.Claims.{Dominance, Reflexive, Transitive, Antisymmetric, CommonPart, ViewKeeps, ViewTwice, ViewAgain, CommandKeeps, RefusalLeaves, AnswerRoom, SheetRoom, GivenExactly, Accepting, AcceptedExactly, AcceptedGood, SameValue, ChangesThere, ChangesNowhereElse, DirectoriesStay, InsertDoes, DeleteDoes, UpdateDoes, SelectDoes, Demand3, RoundTrip, ReadingExactly, WritingExactly, NothingHidden, WrittenReads, Cards}
use Rattle.model.proofs.CardLaws
use Rattle.model.proofs.DeedLaws
use Rattle.model.proofs.Found
use Rattle.model.proofs.GoodLaws
use Rattle.model.proofs.KeepLaws
use Rattle.model.proofs.MarkLaws
use Rattle.model.proofs.OrderLaws
use Rattle.model.proofs.RoomLaws
use Rattle.model.proofs.SheetLaws
use Rattle.model.proofs.SoundLaws
use Rattle.model.proofs.TableLaws
use Rattle.model.proofs.TapeLaws
use Rattle.model.proofs.ValueTests
use Rattle.model.proofs.ViewLaws

pub record Theorems : Type 0 where
  pub dominance : Dominance
  pub reflexive : Reflexive
  pub transitive : Transitive
  pub antisymmetric : Antisymmetric
  pub common-part : CommonPart
  pub view-keeps : ViewKeeps
  pub view-twice : ViewTwice
  pub view_again : ViewAgain
  pub command-keeps : CommandKeeps
  pub refusal_leaves : RefusalLeaves
  pub answer-room : AnswerRoom
  pub sheet-room : SheetRoom
  pub given_exactly : GivenExactly
  pub accepting : Accepting
  pub accepted_exactly : AcceptedExactly
  pub accepted_good : AcceptedGood
  pub same_value_lem : SameValue
  pub changes-there : ChangesThere
  pub changes_nowhere_else : ChangesNowhereElse
  pub directories_stay : DirectoriesStay
  pub insert_does : InsertDoes
  pub delete_does : DeleteDoes
  pub update_does : UpdateDoes
  pub select_does : SelectDoes
  pub demand_3 : Demand3
  pub round_trip : RoundTrip
  pub reading_exactly : ReadingExactly
  pub writing_exactly : WritingExactly
  pub nothing_hidden : NothingHidden
  pub written-reads : WrittenReads
  pub cards : Cards

pub theorems : Theorems
theorems =
    record {
      dominance = MarkLaws.dominance;
      reflexive = OrderLaws.dominates_refl;
      transitive = OrderLaws.dominates_trans;
      antisymmetric = OrderLaws.dominates_antisym;
      common-part = OrderLaws.dominates-common;
      view-keeps = SoundLaws.view-keeps;
      view-twice = ViewLaws.view-two;
      view_again = ViewLaws.view_again;
      command-keeps = KeepLaws.command-keeps;
      refusal_leaves = Found.refusal_leaves;
      answer-room = RoomLaws.answer-room;
      sheet-room = RoomLaws.sheet-room;
      given_exactly = TableLaws.given_exactly;
      accepting = TableLaws.accepting;
      accepted_exactly = TableLaws.accepted_exactly;
      accepted_good = GoodLaws.accepted_good;
      same_value_lem = ValueTests.same_value_lem;
      changes-there = Found.changes-there;
      changes_nowhere_else = Found.changes_nowhere_else;
      directories_stay = Found.directories_stay;
      insert_does = DeedLaws.insert_does;
      delete_does = DeedLaws.delete_does;
      update_does = DeedLaws.update_does;
      select_does = DeedLaws.select_does;
      demand_3 = TapeLaws.demand_3;
      round_trip = SheetLaws.round_trip;
      reading_exactly = RoomLaws.reading_exactly;
      writing_exactly = RoomLaws.writing_exactly;
      nothing_hidden = RoomLaws.nothing_hidden;
      written-reads = SheetLaws.written-reads;
      cards = CardLaws.cards;
    }
