-- The chain over the rows counts those of the class.
-- Assumes nothing.
use Rattle.std.proofs.Common.{rules, tests, sym, ◌∙◌}
use Rattle.std.proofs.lemmas.Iterator.{YieldsList-from_slice}
use Rattle.std.proofs.lemmas.Iterator.Consumers.{YieldsList-from_filter, count_from_yields_List}
use Rattle.model.specs.Classes.{same}
use Rattle.lists.proofs.Counts.{count_same}
use Rattle.rowrules.specs.Kept.{of_berth}
use Rattle.rowrules.proofs.in_berth.Goals as goal

pub returns : goal.returns
unfolding same
returns c =
    let a = c.args in
    count_from_yields_List c.filter.result _ c.count.ensures.ran
    (YieldsList-from_filter _ (of_berth a.c) (YieldsList-from_slice a.rows.now cc) c.filter.ensures.closure (λ x b q k. search (rules, tests)))
    ∙ sym (count_same (of_berth a.c) a.rows.now)
