-- The chain over the berths tests each, as the list of what they stand for has it.
-- Assumes nothing.
use Rattle.std.proofs.Common.{rules, tests, ◌∙◌}
use Rattle.std.proofs.lemmas.Iterator.{YieldsList-from_slice}
use Rattle.std.proofs.lemmas.Iterator.Search.{any_from_yields_List}
use Rattle.model.specs.Places.{sure}
use Rattle.model.specs.Classes.{same}
use Rattle.store.specs.Packed.{unpacked_berth}
use Rattle.rowrules.proofs.PartLaws.{any_map}
use Rattle.rowrules.proofs.has_berth.Goals as goal

pub returns : goal.returns
returns c =
    let a = c.args in
    let p = sure (same a.c) in
    any_from_yields_List (λ b. p (unpacked_berth b)) c.any.new.self _ _ c.any.ensures.ran (YieldsList-from_slice a.l cc) (λ x b q k. search (rules, tests))
    ∙ any_map p unpacked_berth a.l
