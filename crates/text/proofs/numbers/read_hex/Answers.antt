-- A digit more is joined by a shift.
-- Assumes nothing.
use mathlib.Core.Path.{◌∙◌, sym}
use native.Mathlib.Omega.{arith}
use Rattle.text.proofs.ReadLaws.{hex_step}
use Rattle.text.proofs.numbers.read_hex.Goals as goal

pub loop-b-preserved : goal.loop-b-preserved
loop-b-preserved c =
    let step = hex_step c.args.s.now c.loop-b.b-index c.loop-b.acc c.in_ok-acc.field-0 (omega arith) (omega arith) c.loop-b.invariant.1 (sym c.hex_digit.ensures ∙ c.in_ok-acc.was) in
    (c.loop-b.invariant.0, step.0, c.loop-b.invariant.2 ∙ step.1)
