-- Loops that write the parts of a table and of a directory, and the tables and the directories.
-- Assumes nothing.
use Rattle.entries.proofs.SlotLaws.{berth_is, group_is}
use Rattle.room.proofs.EachLaws.{each_none, writes_item, writes_part}

pub ruleset parts = (each_none, writes_part, writes_item, berth_is, group_is)
