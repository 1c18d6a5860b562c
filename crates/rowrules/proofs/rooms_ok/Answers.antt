-- The chain over the berths tests each that is there.
-- Assumes nothing.
use Rattle.std.proofs.Common.{rules, tests, ◌∙◌}
use Rattle.std.proofs.lemmas.Iterator.{YieldsList-from_slice}
use Rattle.std.proofs.lemmas.Iterator.Search.{all_from_yields_List}
use Rattle.store.specs.declared.Berth.{Berth}
use Rattle.store.specs.Packed.{unpacked_berth}
use Rattle.rowrules.specs.Kept.{room_in, room_kept}
use Rattle.rowrules.proofs.PartLaws.{all-kept}
use Rattle.rowrules.proofs.rooms_ok.Goals as goal

pub returns : goal.returns
unfolding unpacked_berth
returns c =
    let a = c.args in
    all_from_yields_List (room_kept a.rows.now) c.all.new.self _ _ c.all.ensures.ran (YieldsList-from_slice a.l cc) (λ x b q k. search (rules, tests))
    ∙ all-kept (λ (b : Berth). b.there) (λ (b : Berth). b.class) (room_in a.rows.now) a.l
