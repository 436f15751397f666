use Rattle.std.proofs.Common.{◌≡◌, length, subst, sym, ◌∙◌}
use Rattle.net_core.proofs.Lists.{all_written}
use Rattle.module_choice.proofs.Pairs.{counts_long}
use Rattle.plan_terms.specs.Terms.{AreCounts}
use Rattle.tree_boxes.specs.Searches.{aimed}
use Rattle.tree_boxes.proofs.whole.whole_counts.Goals as goal

pub loop-a-preserved : goal.loop-a-preserved
loop-a-preserved c =
    let links = (aimed c.args.aim.now).links in
    let old = c.loop-a.counts in
    let new = c.set_count.new.counts in
    let shape = c.set_count.ensures links (subst (AreCounts links) (sym c.items_mut.ensures.value) c.loop-a.invariant) in
    let size : length new ≡ length old = counts_long links new shape ∙ sym (counts_long links old c.loop-a.invariant) in
    subst (AreCounts links) (sym (all_written old new size)) shape
