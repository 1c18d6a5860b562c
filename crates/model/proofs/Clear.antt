-- A command is accepted just where no check of the reply table passes.
-- Assumes nothing.
use mathlib.Core.Path.{◌∙◌, ◌≡◌, ap, refl}
use mathlib.Core.Bool.{Bool, cond, false, not, true}
use mathlib.Core.List.{List, [], ◌∷◌}
use Rattle.std.specs.Prelude.{Option, None, Some}
use Prim.Native.Nat.{ℕ}
use Rattle.model.specs.declared.Class.{Class}
use Rattle.model.specs.declared.Reply.{Reply}
use Rattle.model.specs.declared.Reply.TheVariants.{Done, LeftOut}
use Rattle.model.specs.Places.{all, any}
use Rattle.model.specs.Parts.{Table}
use Rattle.model.specs.Replies.{accepts, number}
use Rattle.model.specs.Commands.{Action, delete, insert, select, update}
use Rattle.model.specs.Answers.{unknown}
use Rattle.model.specs.Checks.{Check, checks, first_of, or_next, table_checks}
use Rattle.model.specs.Verdicts.{Verdict, accept, decided, judge, says}
use Rattle.model.proofs.Tests.{and-fst, and-snd, not-both, not-true}

-- none of the tests passed
abbrev pub Clear : List Check → Type 0
Clear [] = Unit {0}
Clear (k ∷ ks) = (k.1 ≡ false) × Clear ks

-- the check's reply is a refusal
abbrev pub refuses : Check → Bool
refuses k = not (accepts k.0)

-- where all replies of the list are refusals and the verdict is not a refusal, no test of the list passed
pub clear : (l : List Check) (v : Verdict) → all refuses l ≡ true → accepts (decided (first_of l) v).reply ≡ true → Clear l
unfolding decided says
clear [] v h e = tt
clear (k ∷ ks) v h e = go k.1 refl e (clear ks v (and-snd (refuses k) (all refuses ks) h))
  where
    go : (b : Bool) → k.1 ≡ b → accepts (decided (or_next b k.0 (first_of ks)) v).reply ≡ true
        → (accepts (decided (first_of ks) v).reply ≡ true → Clear ks) → (k.1 ≡ false) × Clear ks
    go true p e ih = not-both (accepts k.0) e (not-true (accepts k.0) (and-fst (refuses k) (all refuses ks) h))
    go false p e ih = (p, ih e)

-- the replies of the table's checks are refusals
pub checks_refuse : (w room : ℕ) (c : Class) (a : Action) (t : Table) → all refuses (table_checks w room c a t) ≡ true
unfolding table_checks checks accepts number
checks_refuse w room c (insert gs) t = refl
checks_refuse w room c (delete is) t = refl
checks_refuse w room c (update es) t = refl
checks_refuse w room c (select q) t = refl

pub passed : (w room : ℕ) (c : Class) (a : Action) (t : Table) → accepts (judge w room c a (Some t)).reply ≡ true → Clear (table_checks w room c a t)
unfolding judge
passed w room c a t e = clear (table_checks w room c a t) (accept a t) (checks_refuse w room c a t) e

-- ---- and back
pub clear_first : (l : List Check) → Clear l → first_of l ≡ None
clear_first [] h = refl
clear_first (k ∷ ks) h = ap (λ (b : Bool). or_next b k.0 (first_of ks)) h.0 ∙ clear_first ks h.1

-- with no refusal a command is accepted
pub accept-accepts : (a : Action) (t : Table) → accepts (accept a t).reply ≡ true
unfolding accept says accepts number
accept-accepts (insert gs) t = refl
accept-accepts (delete is) t = refl
accept-accepts (update es) t = refl
accept-accepts (select q) t = go (any (unknown q) t.rows)
  where
    go : (b : Bool) → accepts (cond b LeftOut Done) ≡ true
    go true = refl
    go false = refl

pub cleared : (w room : ℕ) (c : Class) (a : Action) (t : Table) → Clear (table_checks w room c a t) → accepts (judge w room c a (Some t)).reply ≡ true
unfolding judge decided
cleared w room c a t h = ap (λ (o : Option Reply). accepts (decided o (accept a t)).reply) (clear_first (table_checks w room c a t) h) ∙ accept-accepts a t
