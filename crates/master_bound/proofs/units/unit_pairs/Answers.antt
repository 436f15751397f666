use Rattle.std.proofs.Common.{subst}
use Rattle.plan_terms.specs.Terms.{Link}
use Rattle.master_law.specs.Terms.{IsPairOfLink}
use Rattle.master_bound.proofs.UnitPairs.{pairs_more}
use Rattle.master_bound.proofs.units.unit_pairs.Goals as goal

pub loop-l-preserved : goal.loop-l-preserved
loop-l-preserved c =
    let links = c.items-links.result.now in
    let pair = subst (λ ms. IsPairOfLink ms c.pair_of.result) c.items.ensures c.pair_of.ensures.pair in
    let here = subst (λ (k : Link). IsPairOfLink k.modules c.pair_of.result) c.l-item.is pair in
    pairs_more links c.loop-l.pairs c.push.new.self c.loop-l.l-index c.l-item.result c.pair_of.result c.in_ok-push.ensures.ok c.loop-l-test.true here c.pair_of.ensures.cost c.loop-l.invariant
