use Rattle.std.proofs.Common.{ℕ, ◌+◌, List, ap, arith, length, subst, sym, take}
use Rattle.plan_terms.specs.Terms.{AreCounts, Link}
use Rattle.tree_boxes.proofs.WholeCounts.{counts_more}
use Rattle.tree_boxes.proofs.whole.least_of_box.Goals as goal

pub loop-e-preserved : goal.loop-e-preserved
loop-e-preserved c =
    let links = c.args.links.now in
    let i = c.loop-e.e in
    let link = c.index-links-e.result in
    let long = c.in_ok-least_of_link.ensures in
    subst (λ (counts : List (List ℕ)). AreCounts (take (i + 1) links) counts) (sym c.in_ok-push.ensures.ok)
    (counts_more links c.loop-e.counts i link link _ c.loop-e-test.true c.index-links-e.is (omega (arith, long, c.len.ensures, ap (λ (l : Link). length l.modules) c.index-links-e.is)) c.loop-e.invariant)
