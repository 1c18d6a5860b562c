-- What is left of the fields is left to be written.
-- Assumes nothing.
use Rattle.room.proofs.PenLaws.{Left}
use Rattle.entries.specs.Lines.{fields_text}
use Rattle.entries.proofs.put_fields.Given as goal

abbrev pub invariant-loop-c : goal.invariant-loop-c
invariant-loop-c l = Left l.initial.pen (fields_text l.columns l.fields) l.pen (fields_text l.c-iterator.a.rest.now l.c-iterator.b.rest.now)
