-- Tested, and then written.
-- Assumes nothing.
use mathlib.Core.Path.{◌∙◌, refl, sym}
use Rattle.model.specs.Rooms.{unwritten}
use Rattle.entries.specs.Lines.{heading_of}
use Rattle.writer.proofs.WritingLaws.{rule_broken, rules-kept}
use Rattle.writer.proofs.write_sheet.Goals as goal

pub returns-then-not-may_write : goal.returns-then-not-may_write
unfolding unwritten
returns-then-not-may_write c =
    let A = c.args in
    record { answer = rule_broken (heading_of A.heading) A.s A.room.now (sym c.may_write.ensures ∙ c.if-not-may_write.true); err = refl }

pub returns : goal.returns
returns c =
    let A = c.args in
    record {
      answer = c.write_text.ensures.answer ∙ rules-kept (heading_of A.heading) A.s A.room.now (sym c.may_write.ensures ∙ c.if-not-may_write.false);
      err = c.write_text.ensures.err;
    }
