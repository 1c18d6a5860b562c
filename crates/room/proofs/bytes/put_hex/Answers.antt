-- The last k digits are left to be written.
-- Assumes nothing.
use Rattle.std.proofs.Common.{arith, ◌≡◌, ◌∙◌, ap, sym, ℕ, ◌%◌, ◌/◌, ◌-◌, ◌^◌, ◌∷◌}
use Rattle.model.specs.Numbers.{digit_byte, digits}
use Rattle.room.proofs.DigitLaws.{digits_next}
use Rattle.room.proofs.RoomLaws.{in_all, in_less, in_none}
use Rattle.room.proofs.bytes.put_hex.Goals as goal

pub loop-k-init : goal.loop-k-init
loop-k-init c = in_all (omega arith) (omega arith)

pub loop-k-preserved : goal.loop-k-preserved
loop-k-preserved c =
    let v = c.args.v in
    let k = c.loop-k.k in
    let x = c.digit_byte.result in
    let d : x ≡ digit_byte (v / 16 ^ (k - 1) % 16) = cc in
    in_less _ _ c.loop-k.invariant c.put_byte-place.ensures (digits_next 16 k v (omega arith) ∙ ap (λ (y : ℕ). y ∷ digits 16 (k - 1) v) (sym d))

pub returns : goal.returns
unfolding digits
returns c = let z : c.loop-k.k ≡ 0 = omega arith in in_none (rw z at c.loop-k.invariant)
