-- A sheet is tested for hidden fields too.
-- Assumes nothing.
use mathlib.Core.Path.{◌∙◌}
use Rattle.writer.proofs.WritingLaws.{sheet_may, view_may}
use Rattle.writer.proofs.may_write.Goals as goal

pub returns-in-Sheet : goal.returns-in-Sheet
returns-in-Sheet c = rw c.in-Sheet.is (c.keeps_sheet.ensures ∙ sheet_may c.args.s)

pub returns-in-View : goal.returns-in-View
returns-in-View c = rw c.in-View.is (c.keeps_rules.ensures ∙ view_may c.args.s)
