-- The directories, each as the clearance sees it.
-- Assumes nothing.
use mathlib.Core.Path.{◌∙◌, ◌≡◌}
use native.Mathlib.Omega.{arith}
use Rattle.std.proofs.Common.{rules, length}
use Rattle.view.specs.Seen.{seen_directory}
use Rattle.view.proofs.Arrays.{turned_first, turned_last, turned_next}
use Rattle.view.proofs.TableLaws.{store_seen}
use Rattle.view.proofs.view_store.Goals as goal

pub loop-d-init : goal.loop-d-init
loop-d-init c = turned_first (seen_directory c.args.c) c.args.s.dirs

pub loop-d-preserved : goal.loop-d-preserved
loop-d-preserved c =
    let L = c.loop-d in
    let four : length c.args.s.dirs ≡ 4 = search rules in
    turned_next (seen_directory c.args.c) c.args.s.dirs L.d-items L.d-index c.view_directory.result _ (omega (arith, four, L.invariant.long)) c.view_directory.ensures L.invariant

pub returns : goal.returns
returns c =
    let a = c.args in
    let L = c.loop-d in
    let four : length c.args.s.dirs ≡ 4 = search rules in
    (λ i. record { dirs = turned_last (seen_directory a.c) a.s.dirs L.d-items L.d-index (omega (arith, four, L.invariant.long)) L.invariant i }) ∙ store_seen a.c a.s
