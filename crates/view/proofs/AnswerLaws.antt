-- What is answered to whoever asks for a view.
-- Assumes nothing.
use mathlib.Core.Path.{◌≡◌, refl, sym}
use mathlib.Core.Bool.{Bool, cond, false, true}
use Rattle.std.specs.Prelude.{Result, Ok, Err, eqb}
use Rattle.model.specs.declared.Class.{Class}
use Rattle.model.specs.declared.Reply.TheVariants.{Done, RuleBroken}
use Rattle.model.specs.Replies.{number}
use Rattle.model.specs.Rules.{rules}
use Rattle.model.specs.View.{view}
use Rattle.model.specs.Verdicts as model
use Rattle.model.specs.Verdicts.{viewed}
use Rattle.store.specs.declared.Store.{Store}
use Rattle.store.specs.Packed.{packed, unpacked}
use Rattle.store.specs.Canonical.{canonical}
use Rattle.store.proofs.Back.{packed-unpacked}
use Rattle.rules.specs.Ours.{ours}
use Rattle.view.specs.declared.Refusal.{Refusal}
use Rattle.view.specs.Viewing.{viewed_at}

-- the answer of the definition, packed: the view under reply 0, and under any other reply that reply and the store
unfoldable pub packed_answer : model.Viewed → Result Store Refusal
packed_answer v = cond (eqb (number v.reply) 0) (Ok (packed v.store)) (Err (record { reply = v.reply; store = packed v.store }))

-- a canonical store is answered so
pub answer-viewed : (c : Class) (s : Store) → canonical s ≡ true → viewed_at c s ≡ packed_answer (viewed 8 c (unpacked s))
unfolding viewed_at ours viewed packed_answer number
answer-viewed c s e = rw e (go (rules 8 (unpacked s)))
  where
    go : (b : Bool)
        → cond b (Ok (packed (view c (unpacked s)))) (Err (record { reply = RuleBroken; store = s }))
        ≡ packed_answer (cond b (record { reply = Done; store = view c (unpacked s) }) (record { reply = RuleBroken; store = unpacked s }))
    go true = refl
    go false = λ i. Err (record { reply = RuleBroken; store = sym (packed-unpacked s e) i })
