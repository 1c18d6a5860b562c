-- What accepted commands do, said plainly: without the walk and the tests of Effects. Claims ties the two.
-- Assumes nothing.
use Rattle.std.specs.Prelude.{◌≡◌, not, true, List, [], ◌∷◌, suc, zero, ℕ, length, take}
use Rattle.std.specs.Prelude.{Option, None, Some}
use Rattle.model.specs.declared.Class.{Class}
use Rattle.model.specs.declared.Field.{Field}
use Rattle.model.specs.declared.Value.TheVariants.{Hidden}
use Rattle.model.specs.Places.{Places, at, gather, has, map_o, when}
use Rattle.model.specs.Classes.{dominates}
use Rattle.model.specs.Values.{same_value}
use Rattle.model.specs.Parts.{Directory, Row}
use Rattle.model.specs.Commands.{Change, Condition, New}
use Rattle.model.specs.Answers.{Shown, numbered_from}
use Rattle.model.specs.Effects.{entry_for, put, touch}
use Rattle.model.specs.Conditions.{There}

-- how many of the first i rows the client sees: the visible number of the row at place i, if the client sees it
unfoldable pub visible_before : Class → List Row → ℕ → ℕ
visible_before c rows i = length (gather (λ (r : Row). when (dominates c r.exist) r) (take i rows))

-- each row that the client sees is kept, changed or removed by f, under its visible number; the others stay
unfoldable pub plainly : Class → (ℕ → Row → Option Row) → List Row → List Row
plainly c f rows = gather (λ (x : Shown). touch (dominates c x.row.exist) f (visible_before c rows x.number) x.row) (numbered_from zero rows)

-- a directory's own classes
abbrev pub classes_of : Directory → Class × Class
classes_of d = (d.exist, d.class)

-- the rows named go
unfoldable pub strike_named : List ℕ → ℕ → Row → Option Row
strike_named is k r = when (not (has k is)) r

-- the fields named change
unfoldable pub put_named : Option New → Field → Field
put_named None f = f
put_named (Some n) f = put n f

unfoldable pub put_all : (ℕ → Option New) → Places Field → Places Field
put_all g [] = []
put_all g (o ∷ fs) = map_o (put_named (g zero)) o ∷ put_all (λ (j : ℕ). g (suc j)) fs

unfoldable pub amend_named : List Change → ℕ → Row → Option Row
amend_named es k r = Some (record { exist = r.exist; fields = put_all (entry_for es k) r.fields })

-- the row's condition field is not hidden and holds the value asked for
abbrev pub Met : Option Condition → Row → Type 0
Met None r = Unit {0}
Met (Some q) r = There (λ (f : Field). (¬ (f.value ≡ Hidden)) × (same_value q.value f.value ≡ true)) (at q.column r.fields)
