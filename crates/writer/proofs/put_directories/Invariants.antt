-- The first ones are written.
-- Assumes nothing.
use Rattle.std.proofs.Common.{take}
use Rattle.room.specs.Writing.{Writes, each}
use Rattle.writer.specs.Texts.{directory_text}
use Rattle.writer.proofs.put_directories.Given as goal

abbrev pub invariant-loop-d : goal.invariant-loop-d
invariant-loop-d l = Writes l.initial.pen (each directory_text 0 (take l.d l.dirs)) l.pen
