-- The numbers of replies. 01, "Reply numbers".
-- Assumes nothing.
use Rattle.std.specs.Prelude.{Bool, ℕ, leb}
use Rattle.model.specs.declared.Reply.{Reply}
use Rattle.model.specs.declared.Reply.TheVariants.{Done, LeftOut, BadLine, NoTable, TableAbove, NamedTwice, NoColumn, NoRow, NotNamed, Misfit, NoBerth, BerthFull, NotYours, Uncovers, RoomShort, SheetLong, BadSheet, RuleBroken}

unfoldable pub number : Reply → ℕ
number Done = 0
number LeftOut = 1
number BadLine = 2
number NoTable = 3
number TableAbove = 4
number NamedTwice = 5
number NoColumn = 6
number NoRow = 7
number NotNamed = 8
number Misfit = 9
number NoBerth = 10
number BerthFull = 11
number NotYours = 12
number Uncovers = 13
number RoomShort = 14
number SheetLong = 22
number BadSheet = 20
number RuleBroken = 21

-- done, and not refused
unfoldable pub accepts : Reply → Bool
accepts r = leb (number r) 1
