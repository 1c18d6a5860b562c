-- The table that a command finds at the place it names, and that only this table is changed: `ChangesThere`, `ChangesNowhereElse`; a refused
-- command leaves all as it was: `RefusalLeaves`.
-- Assumes nothing.
use mathlib.Core.Path.{◌∙◌, ◌≡◌, ap, refl, sym}
use mathlib.Core.Bool.{Bool, cond, false, false≢true, true}
use mathlib.Core.List.{[], ◌∷◌}
use Rattle.std.specs.Prelude.{Option, None, Some}
use Prim.Native.Nat.{suc, zero, ℕ}
use lib.Dec.{eqb}
use lib.ListN.{length}
use borrow.Author.Tests.{eqb-false, eqb-true}
use Rattle.model.specs.declared.Class.{Class}
use Rattle.model.specs.declared.Reply.{Reply}
use Rattle.model.specs.declared.Reply.TheVariants.{RuleBroken}
use Rattle.model.specs.Places.{Places, alter, and_then, at, emptied, map_o, on_places, when}
use Rattle.model.specs.Classes.{dominates}
use Rattle.model.specs.Parts.{Directory, Store, Table, table_at}
use Rattle.model.specs.Rules.{rules}
use Rattle.model.specs.View.{cut_directory, keep_table, open_table, shut_table, view, view_directory, view_table, view_tables}
use Rattle.model.specs.Replies.{accepts, number}
use Rattle.model.specs.Rooms.{written}
use Rattle.model.specs.Commands.{Action, Command, Line, command, nobodys, read_line, unformed}
use Rattle.model.specs.Answers.{answer_text}
use Rattle.model.specs.Checks.{first_of, table_checks}
use Rattle.model.specs.Effects.{change, change_directory, change_table}
use Rattle.model.specs.Verdicts.{accept, after, answer_bytes, changed, decided, judge, judgement, line_store, line_verdict, outcome, says, verdict, verdict_on}
use Rattle.model.specs.Plainly.{classes_of}
use Rattle.model.specs.Claims.{Accepts, ChangesNowhereElse, ChangesThere, DirectoriesStay, RefusalLeaves}
use Rattle.model.proofs.Tests.{not-both, not-false}
use Rattle.model.proofs.PlaceLaws.{at-on_places}
use Rattle.model.proofs.OptionLaws.{nothing_is}
use Rattle.model.proofs.Clear.{accept-accepts, passed}

-- ---- a place that is changed, and the others
at-emptied : {A : Type 0} (n : ℕ) (l : Places A) → at n (emptied l) ≡ None
at-emptied n [] = refl
at-emptied zero (o ∷ l) = refl
at-emptied (suc n) (o ∷ l) = at-emptied n l

module _ {A : Type 0} (f : A → A) where
  at-altered : (n : ℕ) (l : Places A) → at n (alter n (map_o f) l) ≡ map_o f (at n l)
  at-altered n [] = refl
  at-altered zero (o ∷ l) = refl
  at-altered (suc n) (o ∷ l) = at-altered n l

  at_unaltered : (m n : ℕ) (l : Places A) → ¬ (m ≡ n) → at m (alter n (map_o f) l) ≡ at m l
  at_unaltered m n [] other = refl
  at_unaltered zero zero (o ∷ l) other = absurd (other refl)
  at_unaltered zero (suc n) (o ∷ l) other = refl
  at_unaltered (suc m) zero (o ∷ l) other = refl
  at_unaltered (suc m) (suc n) (o ∷ l) other = at_unaltered m n l (λ e. other (ap suc e))

module _ (d n : ℕ) (f : Table → Table) (s : Store) where
  -- f changes the table at d, n
  abbrev changes : Store
  changes = alter d (map_o (change_directory n f)) s

  table-changed : table_at d n changes ≡ map_o f (table_at d n s)
  unfolding table_at change_directory
  table-changed = rw (at-altered (change_directory n f) d s) (go (at d s))
    where
      go : (o : Option Directory)
          → and_then (map_o (change_directory n f) o) (λ (x : Directory). at n x.tables) ≡ map_o f (and_then o (λ (x : Directory). at n x.tables))
      go None = refl
      go (Some x) = at-altered f n x.tables

  table_unchanged : (e m : ℕ) → ¬ ((e ≡ d) × (m ≡ n)) → table_at e m changes ≡ table_at e m s
  unfolding table_at change_directory
  table_unchanged e m other = go (eqb e d) refl
    where
      here : ¬ (m ≡ n) → (o : Option Directory)
          → and_then (map_o (change_directory n f) o) (λ (x : Directory). at m x.tables) ≡ and_then o (λ (x : Directory). at m x.tables)
      here h None = refl
      here h (Some x) = at_unaltered f m n x.tables h

      go : (b : Bool) → eqb e d ≡ b → table_at e m changes ≡ table_at e m s
      go true p =
          let q : e ≡ d = eqb-true e d p in
          rw (q, at-altered (change_directory n f) d s) (here (λ r. other (q, r)) (at d s))
      go false p = rw (at_unaltered (change_directory n f) e d s (eqb-false e d p))

-- ---- what a client finds at a place is the view of what is stored there
table-seen : (c : Class) (d n : ℕ) (s : Store) (y : Table) → table_at d n (view c s) ≡ Some y
    → (t : Table) × (table_at d n s ≡ Some t) × (view_table c t ≡ y)
unfolding table_at view view_directory cut_directory view_tables keep_table
table-seen c d n s y e = go (at d s) (rw (at-on_places (view_directory c)) at e)
  where
    one : (o : Option Table) → and_then o (keep_table c) ≡ Some y → (t : Table) × (o ≡ Some t) × (view_table c t ≡ y)
    one None h = nothing_is h
    one (Some t) h = (t, refl, cc)

    kept : (x : Directory) (a b : Bool)
        → and_then (when a (record { exist = x.exist; class = x.class; tables = cond b (on_places (keep_table c) x.tables) (emptied x.tables) }))
        (λ (z : Directory). at n z.tables)
        ≡ Some y
        → (t : Table) × (at n x.tables ≡ Some t) × (view_table c t ≡ y)
    kept x true true h = one (at n x.tables) (rw (at-on_places (keep_table c)) at h)
    kept x true false h = nothing_is (sym (at-emptied n x.tables) ∙ h)
    kept x false b h = nothing_is h

    go : (o : Option Directory) → and_then (and_then o (view_directory c)) (λ (z : Directory). at n z.tables) ≡ Some y
        → (t : Table) × (and_then o (λ (z : Directory). at n z.tables) ≡ Some t) × (view_table c t ≡ y)
    go None h = nothing_is h
    go (Some x) h = kept x (dominates c x.exist) (dominates c x.class) h

-- the changed table stands where the command names it
change-at : (s : Store) (k : Command)
    → table_at k.directory k.table (change k s) ≡ map_o (change_table k.clearance k.action) (table_at k.directory k.table s)
unfolding change
change-at s k = table-changed k.directory k.table (change_table k.clearance k.action) s

-- ---- an accepted command
module _ (w room : ℕ) (c : Class) (a : Action) where
  -- without a table, or with one of a class that is not dominated, a command is refused
  accepted_open : (t : Table) → accepts (judge w room c a (Some (view_table c t))).reply ≡ true → Accepts w room c a t
  unfolding view_table shut_table table_checks
  accepted_open t e = go (dominates c t.class) refl e
    where
      go : (b : Bool) → dominates c t.class ≡ b
          → accepts (judge w room c a (Some (cond b (open_table c t) (shut_table c t)))).reply ≡ true → Accepts w room c a t
      go true p e = e
      go false p e = not-both (dominates c t.class) (not-false (dominates c t.class) (passed w room c a (shut_table c t) e).0) p

  accepted_table : (o : Option Table) → accepts (judge w room c a o).reply ≡ true → (t : Table) × (o ≡ Some t)
  unfolding judge says accepts number
  accepted_table None e = absurd (false≢true e)
  accepted_table (Some t) e = (t, refl)

module _ (w room : ℕ) (s : Store) (k : Command) where
  -- an accepted command names a stored table of a class that its clearance dominates
  pub found : accepts (judgement w room s k).reply ≡ true
      → (t : Table) × (table_at k.directory k.table s ≡ Some t) × Accepts w room k.clearance k.action t
  unfolding judgement
  found e =
      let (y, p) = accepted_table w room k.clearance k.action (table_at k.directory k.table (view k.clearance s)) e in
      let (t, q, r) = table-seen k.clearance k.directory k.table s y p in
      (t, q, accepted_open w room k.clearance k.action t (rw (p, ← r) at e))

pub changes-there : ChangesThere
unfolding changed
changes-there w room s k e =
    let (t, p, h) = found w room s k e in
    (t, p, h, rw (e, change-at s k, p))

pub changes_nowhere_else : ChangesNowhereElse
unfolding changed change
changes_nowhere_else w room s k d t other = go (accepts (judgement w room s k).reply)
  where
    go : (b : Bool) → table_at d t (cond b (change k s) s) ≡ table_at d t s
    go true = table_unchanged k.directory k.table (change_table k.clearance k.action) s d t other
    go false = refl

-- ---- a refused command
-- shows nothing
shows_nothing : (l : Option Reply) (a : Action) (t : Table) → accepts (decided l (accept a t)).reply ≡ false → (decided l (accept a t)).shown ≡ []
unfolding decided says
shows_nothing (Some r) a t e = refl
shows_nothing None a t e = not-both (accepts (accept a t).reply) (accept-accepts a t) e

module _ (w room : ℕ) (s : Store) where
  judged-nothing : (c : Class) (a : Action) (o : Option Table) → accepts (judge w room c a o).reply ≡ false → (judge w room c a o).shown ≡ []
  unfolding judge says
  judged-nothing c a None e = refl
  judged-nothing c a (Some t) e = shows_nothing (first_of (table_checks w room c a t)) a t e

  line-left : (l : Line) → accepts (line_verdict w room s l).reply ≡ false → ((line_verdict w room s l).shown ≡ []) × (line_store w room s l ≡ s)
  unfolding line_verdict line_store says judgement changed
  line-left nobodys e = (refl, refl)
  line-left (unformed c) e = (refl, refl)
  line-left (command k) e = (judged-nothing k.clearance k.action (table_at k.directory k.table (view k.clearance s)) e, rw e)

  refused-leaves : (l : Line) → accepts (verdict w room s l).reply ≡ false → ((verdict w room s l).shown ≡ []) × (after w room s l ≡ s)
  unfolding verdict after says
  refused-leaves l e = go (rules w s) e
    where
      go : (b : Bool) → accepts (cond b (line_verdict w room s l) (says RuleBroken)).reply ≡ false
          → ((cond b (line_verdict w room s l) (says RuleBroken)).shown ≡ []) × (cond b (line_store w room s l) s ≡ s)
      go true h = line-left l h
      go false h = (refl, refl)

pub refusal_leaves : RefusalLeaves
unfolding outcome answer_bytes verdict_on answer_text written
refusal_leaves w s o e =
    let (p, q) = refused-leaves w (length o.room) s (read_line w o.line) e in
    λ i. record {
      reply = (outcome w s o).reply;
      length = length (answer_text w (p i));
      room = written (answer_text w (p i)) o.room;
      store = q i;
    }

pub directories_stay : DirectoriesStay
unfolding changed change change_directory
directories_stay w room s k d = go (accepts (judgement w room s k).reply)
  where
    g : Directory → Directory
    g = change_directory k.table (change_table k.clearance k.action)

    classes : Option Directory → Option (Class × Class)
    classes o = map_o classes_of o

    one : (o : Option Directory) → classes (map_o g o) ≡ classes o
    one None = refl
    one (Some x) = refl

    altered : (n d : ℕ) (s : Store) → classes (at d (alter n (map_o g) s)) ≡ classes (at d s)
    altered n d [] = refl
    altered zero zero (o ∷ s) = one o
    altered zero (suc d) (o ∷ s) = refl
    altered (suc n) zero (o ∷ s) = refl
    altered (suc n) (suc d) (o ∷ s) = altered n d s

    go : (b : Bool) → classes (at d (cond b (change k s) s)) ≡ classes (at d s)
    go true = altered k.directory d s
    go false = refl
