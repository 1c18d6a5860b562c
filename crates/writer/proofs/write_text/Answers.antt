-- Measured, and then written where it fits.
-- Assumes nothing.
use mathlib.Core.Path.{refl}
use native.Mathlib.Omega.{arith}
use Rattle.model.specs.Rooms.{unwritten}
use Rattle.model.specs.Sheets.{sheet_text}
use Rattle.room.proofs.RoomLaws.{wrote-long}
use Rattle.store.specs.Packed.{unpacked}
use Rattle.entries.specs.Lines.{heading_of}
use Rattle.writer.proofs.WritingLaws.{it_fits, too_long}
use Rattle.writer.proofs.write_text.Goals as goal

pub returns-then-room-put_from_start : goal.returns-then-room-put_from_start
unfolding unwritten
returns-then-room-put_from_start c =
    let A = c.args in
    record {
      answer = too_long A.room.now (sheet_text 8 (heading_of A.heading) (unpacked A.s)) (omega (arith, c.if-room-put_from_start.true, wrote-long c.put_from_start.ensures));
      err = refl;
    }

pub returns : goal.returns
returns c =
    let A = c.args in
    record {
      answer = it_fits A.room.now (sheet_text 8 (heading_of A.heading) (unpacked A.s)) _ _ (omega (arith, c.if-room-put_from_start.false, wrote-long c.put_from_start.ensures)) c.put_from_start-2.ensures;
      err = tt;
    }
