-- A u64 has no digit past the sixteenth.
-- Assumes nothing.
use Rattle.std.proofs.Common.{arith, sym}
use Rattle.room.proofs.DigitLaws.{no_digits}
use Rattle.room.proofs.bytes.without.Goals as goal

pub returns-then-k-ge16 : goal.returns-then-k-ge16
returns-then-k-ge16 c = sym (no_digits 16 c.args.k c.args.v (omega arith) c.if-k-ge16.true)
