-- The first ones are written.
-- Assumes nothing.
use Rattle.std.proofs.Common.{take}
use Rattle.model.specs.Lines.{flat}
use Rattle.room.specs.Writing.{Writes}
use Rattle.entries.specs.Lines.{row_text}
use Rattle.writer.proofs.put_rows.Given as goal

abbrev pub invariant-loop-row : goal.invariant-loop-row
invariant-loop-row l = Writes l.initial.pen (flat (row_text l.at.directory l.at.table l.columns) (take l.row-index l.rows)) l.pen
