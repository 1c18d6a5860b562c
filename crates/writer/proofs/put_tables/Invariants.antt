-- The first ones are written.
-- Assumes nothing.
use Rattle.std.proofs.Common.{take}
use Rattle.room.specs.Writing.{Writes, each}
use Rattle.writer.specs.Texts.{table_text}
use Rattle.writer.proofs.put_tables.Given as goal

abbrev pub invariant-loop-table : goal.invariant-loop-table
invariant-loop-table l = Writes l.initial.pen (each (table_text l.directory) 0 (take l.table l.tables)) l.pen
