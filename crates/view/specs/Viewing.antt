-- What is answered to whoever asks for a view of the structs.
-- Assumes nothing.
use Rattle.std.specs.Prelude.{Result, Ok, Err, cond}
use Rattle.model.specs.declared.Class.{Class}
use Rattle.model.specs.declared.Reply.TheVariants.{RuleBroken}
use Rattle.model.specs.View.{view}
use Rattle.store.specs.declared.Store.{Store}
use Rattle.store.specs.Packed.{packed, unpacked}
use Rattle.rules.specs.Ours.{ours}
use Rattle.view.specs.declared.Refusal.{Refusal}

-- the view of a store that is one of ours; else 21, with the store as it was
unfoldable pub viewed_at : Class → Store → Result Store Refusal
viewed_at c s = cond (ours s) (Ok (packed (view c (unpacked s)))) (Err (record { reply = RuleBroken; store = s }))
