-- The parts of an open table, each by its function; the rows under the columns that are kept.
-- Assumes nothing.
use mathlib.Core.Bool.{true}
use mathlib.Core.Path.{ap, ◌∙◌}
use mathlib.Core.List.{List, map}
use Rattle.std.proofs.Common.{rules}
use Rattle.store.specs.declared.Group.{Group}
use Rattle.store.specs.declared.Column.{Column}
use Rattle.store.specs.declared.Table.{Table}
use Rattle.store.specs.Packed.{rows_in}
use Rattle.view.specs.Seen.{seen_berth, seen_column, seen_group, seen_rows, with_rows}
use Rattle.view.proofs.TableLaws.{table_open}
use Rattle.view.proofs.open_table.Goals as goal

pub returns : goal.returns
returns c =
    let a = c.args in
    let t = a.t in
    let b = c.view_berths-seen.ensures in
    let g = c.view_groups-seen.ensures in
    let k = c.view_columns-seen.ensures ∙ ap (λ (l : List Group). map (seen_column l) t.columns) g in
    let w : Table = record {
      there = true;
      class = t.class;
      max = t.max;
      berths = c.view_berths-seen.result;
      groups = c.view_groups-seen.result;
      columns = c.view_columns-seen.result;
      count = t.count;
      rows = t.rows;
    } in
    let r = c.keep_rows.ensures ∙ ap (λ (ks : List Column). with_rows w (seen_rows a.c ks (rows_in t))) k in
    r
    ∙ (λ i. with_rows (record {
      there = true;
      class = t.class;
      max = t.max;
      berths = b i;
      groups = g i;
      columns = k i;
      count = t.count;
      rows = t.rows;
    }) (seen_rows a.c (map (seen_column (map (seen_group a.c) t.groups)) t.columns) (rows_in t)))
    ∙ table_open a.c t
