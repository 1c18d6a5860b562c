-- A count that was read is at most the largest one.
-- Assumes nothing.
use mathlib.Core.Path.{◌∙◌, sym}
use Prim.Native.Nat.{◌≤◌}
use native.Mathlib.Omega.{arith}
use Rattle.model.proofs.DecimalLaws.{dec_text_lem}
use Rattle.field.proofs.texts.count_in.Goals as goal

pub overflow_cast-result : goal.overflow_cast-result
overflow_cast-result c =
    let h : c.in_ok-n.n ≤ 4294967295 = (dec_text_lem 4294967295 _ c.args.s.now (sym c.read_dec.ensures ∙ c.in_ok-n.was)).0 in
    record { fits = omega arith }
