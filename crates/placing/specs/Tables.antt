-- A table with one part more, set behind all that stands in it. 01, "Sheets and tapes": the order of parts.
-- Assumes nothing.
use Rattle.std.specs.Prelude.{◌≡◌, IfNone, Bool, true, ◌&&◌, ℕ, Option, set, drop, eqb, ltb}
use Rattle.model.specs.declared.Class.{Class}
use Rattle.model.specs.Places.{all, map_o, when}
use Rattle.store.specs.declared.Column.{Column}
use Rattle.store.specs.declared.Table.{Table}
use Rattle.store.specs.Canonical.{berth_away, column_away, group_away}

-- what a function made of what it was given, as `step` says: the new one where there is one, and the old one where there is none
abbrev pub Sets : {A U : Type 0} → (A → Option A) → A → Option U → A → Type 0
Sets step old done new = (map_o (λ (u : _). new) done ≡ step old) × IfNone done (new ≡ old)

-- ---- berths, groups and columns
unfoldable pub berth_fits : ℕ → Table → Bool
berth_fits n t = ltb n 4 && (all berth_away (drop n t.berths) && (all group_away t.groups && (all column_away t.columns && eqb t.count 0)))

unfoldable pub berth_set : ℕ → Class → Table → Option Table
berth_set n k t = when (berth_fits n t) (record t { berths = set t.berths n (record { there = true; class = k }) })

unfoldable pub group_fits : ℕ → Table → Bool
group_fits n t = ltb n 4 && (all group_away (drop n t.groups) && (all column_away t.columns && eqb t.count 0))

unfoldable pub group_set : ℕ → Class → Table → Option Table
group_set n k t = when (group_fits n t) (record t { groups = set t.groups n (record { there = true; exist = k }) })

unfoldable pub column_fits : ℕ → Table → Bool
column_fits n t = ltb n 8 && (all column_away (drop n t.columns) && eqb t.count 0)

unfoldable pub column_set : ℕ → Column → Table → Option Table
column_set n k t = when (column_fits n t) (record t { columns = set t.columns n (record k { there = true }) })
