-- What the writers of a sheet leave.
-- Assumes nothing.
use Rattle.std.specs.Prelude.{Bool, cond, ◌&&◌, ℕ, Result, Ok, Err}
use Rattle.model.specs.declared.Reply.{Reply}
use Rattle.model.specs.declared.Reply.TheVariants.{Done, RuleBroken}
use Rattle.model.specs.Numbers.{Bytes}
use Rattle.model.specs.Rooms.{Wrote, unwritten, writing}
use Rattle.model.specs.Sheets.{Heading, may_stand}
use Rattle.store.specs.declared.Store.{Store}
use Rattle.store.specs.Packed.{unpacked}
use Rattle.store.specs.Canonical.{canonical}

-- an answer, with the room at exit: how many bytes were written, or the reply that refuses
abbrev pub wrote_of : Result ℕ Reply → Bytes → Wrote
wrote_of (Ok n) room = record { reply = Done; length = n; room = room }
wrote_of (Err r) room = record { reply = r; length = 0; room = room }

-- the structs stand for a store, which may stand under the heading
unfoldable pub may_write : Heading → Store → Bool
may_write h s = canonical s && may_stand 8 h (unpacked s)

-- structs that stand for no store are refused as a broken rule is; of others what the model's writer leaves
unfoldable pub writing_of : Heading → Store → Bytes → Wrote
writing_of h s room = cond (canonical s) (writing 8 h (unpacked s) room) (unwritten RuleBroken room)
