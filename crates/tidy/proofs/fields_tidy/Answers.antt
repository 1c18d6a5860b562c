-- The chain over both arrays, which are as long, tests all pairs.
-- Assumes nothing.
use Rattle.std.proofs.Common.{rules, tests}
use Rattle.std.proofs.lemmas.Iterator.{YieldsList-from_slice, YieldsList-from_zip}
use Rattle.std.proofs.lemmas.Iterator.Search.{all_from_yields_List}
use Rattle.store.specs.Canonical.{field_tidy}
use Rattle.lists.proofs.Pairs.{from_zip}
use Rattle.tidy.proofs.fields_tidy.Goals as goal

pub returns : goal.returns
returns c =
    from_zip field_tidy _ _ _
    (all_from_yields_List (λ q. field_tidy q.0 q.1) c.all.new.self _ _ c.all.ensures.ran
    (YieldsList-from_zip (YieldsList-from_slice c.args.ks cc) (YieldsList-from_slice c.args.l cc)) (λ x b q k. search (rules, tests)))
    (search rules)
