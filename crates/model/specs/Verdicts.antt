-- What a command is answered, and the store after it. 01, "Commands" and "Reply numbers".
-- Assumes nothing.
use Rattle.std.specs.Prelude.{cond, List, [], ℕ, length}
use Rattle.std.specs.Prelude.{Option, None, Some}
use Rattle.model.specs.declared.Class.{Class}
use Rattle.model.specs.declared.Reply.{Reply}
use Rattle.model.specs.declared.Reply.TheVariants.{Done, LeftOut, BadLine, NoTable, RuleBroken}
use Rattle.model.specs.Places.{any}
use Rattle.model.specs.Parts.{Table, Store, table_at}
use Rattle.model.specs.Rules.{rules}
use Rattle.model.specs.View.{view}
use Rattle.model.specs.Replies.{accepts}
use Rattle.model.specs.Numbers.{Bytes}
use Rattle.model.specs.Rooms.{written}
use Rattle.model.specs.Commands.{Action, insert, delete, update, select, Command, Line, nobodys, unformed, command, read_line}
use Rattle.model.specs.Answers.{Shown, unknown, answer, answer_text}
use Rattle.model.specs.Checks.{table_checks, first_of}
use Rattle.model.specs.Effects.{change}

-- ---- the view of a store: 21 with the store as it was, or the view
pub record Viewed : Type 0 where
  pub reply : Reply
  pub store : Store

unfoldable pub viewed : ℕ → Class → Store → Viewed
viewed w c s = cond (rules w s) (record { reply = Done; store = view c s }) (record { reply = RuleBroken; store = s })

-- ---- the verdict on a command: its reply, and the rows that it shows
pub record Verdict : Type 0 where
  pub reply : Reply
  pub shown : List Shown

unfoldable pub says : Reply → Verdict
says r = record { reply = r; shown = [] }

-- with no refusal: 0, or 1 where a row was left out because its condition field is hidden
unfoldable pub accept : Action → Table → Verdict
accept (insert gs) t = says Done
accept (delete is) t = says Done
accept (update es) t = says Done
accept (select q) t = record { reply = cond (any (unknown q) t.rows) LeftOut Done; shown = answer q t.rows }

unfoldable pub decided : Option Reply → Verdict → Verdict
decided None v = v
decided (Some r) v = says r

module _ (w : ℕ) (room : ℕ) where
  -- on the table that the client's view has at the place named; 3 where it has none
  unfoldable pub judge : Class → Action → Option Table → Verdict
  judge c a None = says NoTable
  judge c a (Some t) = decided (first_of (table_checks w room c a t)) (accept a t)

  unfoldable pub judgement : Store → Command → Verdict
  judgement s k = judge k.clearance k.action (table_at k.directory k.table (view k.clearance s))

  -- the store after it: all that the command names is changed, or nothing
  unfoldable pub changed : Store → Command → Store
  changed s k = cond (accepts (judgement s k).reply) (change k s) s

  -- ---- a line: 21 before all else, then 2
  unfoldable pub line_verdict : Store → Line → Verdict
  line_verdict s nobodys = says BadLine
  line_verdict s (unformed c) = says BadLine
  line_verdict s (command k) = judgement s k

  unfoldable pub verdict : Store → Line → Verdict
  verdict s l = cond (rules w s) (line_verdict s l) (says RuleBroken)

  unfoldable pub line_store : Store → Line → Store
  line_store s nobodys = s
  line_store s (unformed c) = s
  line_store s (command k) = changed s k

  unfoldable pub after : Store → Line → Store
  after s l = cond (rules w s) (line_store s l) s

-- ---- a line of bytes, and the room for its answer
pub record Offer : Type 0 where
  pub line : Bytes
  pub room : Bytes

-- the reply, how many bytes the answer has, the room at exit, and the store
pub record Outcome : Type 0 where
  pub reply : Reply
  pub length : ℕ
  pub room : Bytes
  pub store : Store

module _ (w : ℕ) (s : Store) (o : Offer) where
  unfoldable pub verdict_on : Verdict
  verdict_on = verdict w (length o.room) s (read_line w o.line)

  unfoldable pub answer_bytes : Bytes
  answer_bytes = answer_text w verdict_on.shown

  unfoldable pub outcome : Outcome
  outcome =
      record {
        reply = verdict_on.reply;
        length = length answer_bytes;
        room = written answer_bytes o.room;
        store = after w (length o.room) s (read_line w o.line);
      }
