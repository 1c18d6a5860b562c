-- The first ones are written.
-- Assumes nothing.
use Rattle.std.proofs.Common.{take}
use Rattle.room.specs.Writing.{Writes, each}
use Rattle.entries.specs.Lines.{berth_text}
use Rattle.writer.proofs.put_berths.Given as goal

abbrev pub invariant-loop-n : goal.invariant-loop-n
invariant-loop-n l = Writes l.initial.pen (each (berth_text l.at.directory l.at.table) 0 (take l.n l.berths)) l.pen
