-- The line of a berth and of a group, by its letter.
-- Assumes nothing.
use Rattle.std.proofs.Common.{◌≡◌, refl, cond, false, true, [], ℕ}
use Rattle.std.specs.Bool.{then_some}
use Rattle.model.specs.Records as records
use Rattle.model.specs.Sheets as sheets
use Rattle.store.specs.declared.Berth.{Berth}
use Rattle.store.specs.declared.Group.{Group}
use Rattle.entries.specs.Lines.{berth_text, group_text, part_if, part_text, table_line}

module _ (d t n : ℕ) where
  pub berth_is : (b : Berth) → part_if 66 d t n (then_some b.there b.class) ≡ berth_text d t n b
  unfolding berth_text part_if part_text table_line sheets.record_line sheets.record_fields sheets.part_fields sheets.table_fields sheets.letter_byte
  berth_is b = elim b.there as (λ v. part_if 66 d t n (then_some v b.class) ≡ cond v (table_line d t (records.berth (n, b.class))) []) [ true ↦ refl | false ↦ refl ]

  pub group_is : (g : Group) → part_if 71 d t n (then_some g.there g.exist) ≡ group_text d t n g
  unfolding group_text part_if part_text table_line sheets.record_line sheets.record_fields sheets.part_fields sheets.table_fields sheets.letter_byte
  group_is g = elim g.there as (λ v. part_if 71 d t n (then_some v g.exist) ≡ cond v (table_line d t (records.group (n, g.exist))) []) [ true ↦ refl | false ↦ refl ]
