-- The chain over the columns and the fields tests all pairs.
-- Assumes nothing.
use Rattle.std.proofs.Common.{rules, tests, ◌∙◌}
use Rattle.std.proofs.lemmas.Iterator.{YieldsList-from_slice, YieldsList-from_zip}
use Rattle.std.proofs.lemmas.Iterator.Search.{all_from_yields_List}
use Rattle.lists.proofs.Pairs.{from_zip}
use Rattle.rowrules.specs.Kept.{field_shown}
use Rattle.rowrules.proofs.RowLaws.{fields-shown}
use Rattle.rowrules.proofs.fields_plain.Goals as goal

pub returns : goal.returns
returns c =
    let a = c.args in
    from_zip field_shown _ a.ks a.l
    (all_from_yields_List (λ q. field_shown q.0 q.1) c.all.new.self _ _ c.all.ensures.ran
    (YieldsList-from_zip (YieldsList-from_slice a.ks cc) (YieldsList-from_slice a.l cc)) (λ x b q k. search (rules, tests)))
    (search rules) ∙ fields-shown a.ks a.l (search rules)
