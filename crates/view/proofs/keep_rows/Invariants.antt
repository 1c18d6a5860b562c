-- The table holds what is kept of the rows so far.
-- Assumes nothing.
use Rattle.std.proofs.Common.{◌≡◌, ◌≤◌, take}
use Rattle.view.specs.Seen.{seen_rows, with_rows}
use Rattle.view.proofs.keep_rows.Given as goal

abbrev pub invariant-loop-row : goal.invariant-loop-row
invariant-loop-row l =
    record {
      so_far : l.kept ≡ with_rows l.initial.kept (seen_rows l.c l.initial.kept.columns (take l.row-index l.row-items));
      short : l.kept.count ≤ l.row-index;
    }
