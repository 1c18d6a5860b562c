-- The fields, pair by pair.
-- Assumes nothing.
use Rattle.std.proofs.Common.{rules}
use Rattle.view.specs.Seen.{seen_row, show_field}
use Rattle.view.proofs.Arrays.{all_paired}
use Rattle.view.proofs.view_row.Goals as goal

pub returns : goal.returns
unfolding seen_row
returns c =
    let a = c.args in
    λ i. record {
      exist = a.r.exist;
      fields = all_paired (show_field a.c) a.ks a.r.fields (λ k z q hx hy m. search rules) (search rules) (search rules) c.from_fn.ensures.items i;
    }
