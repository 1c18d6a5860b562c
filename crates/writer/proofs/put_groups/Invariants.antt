-- The first ones are written.
-- Assumes nothing.
use Rattle.std.proofs.Common.{take}
use Rattle.room.specs.Writing.{Writes, each}
use Rattle.entries.specs.Lines.{group_text}
use Rattle.writer.proofs.put_groups.Given as goal

abbrev pub invariant-loop-n : goal.invariant-loop-n
invariant-loop-n l = Writes l.initial.pen (each (group_text l.at.directory l.at.table) 0 (take l.n l.groups)) l.pen
