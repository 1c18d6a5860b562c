-- The end of the text is left to be written.
-- Assumes nothing.
use Rattle.std.proofs.Common.{arith, ◌≡◌, [], drop}
use lib.ListN.{drop_of_length-le}
use Rattle.std.proofs.lemmas.List.{drop_more}
use Rattle.room.proofs.RoomLaws.{in_all, in_less, in_none}
use Rattle.room.proofs.bytes.put_text.Goals as goal

pub loop-b-init : goal.loop-b-init
loop-b-init c = in_all (omega arith) (omega arith)

pub loop-b-preserved : goal.loop-b-preserved
loop-b-preserved c = in_less _ _ c.loop-b.invariant c.put_byte-place.ensures (drop_more c.args.text.now c.loop-b.b-index _ c.loop-b-test.true)

pub returns : goal.returns
returns c =
    let z : drop c.loop-b.b-index c.args.text.now ≡ [] = drop_of_length-le c.args.text.now {i = c.loop-b.b-index} c.loop-b-test.false in
    in_none (rw z at c.loop-b.invariant)
