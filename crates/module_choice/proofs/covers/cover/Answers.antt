use Rattle.std.proofs.Common.{◌∙◌, ap, subst}
use Rattle.plan_terms.specs.Terms.{link_cost}
use Rattle.module_choice.{specs.inner.Cheapest.AreCheapest, proofs.Setups.cheapest_covering}
use Rattle.module_choice.proofs.covers.cover.Goals as goal

pub returns : goal.returns
returns c =
    let l = c.args.link.now in
    cheapest_covering l c.args.need c.link_cost-cost.result c.in_ok-counts.counts
    (subst (λ ms. AreCheapest ms c.args.need c.in_ok-counts.counts) c.items-modules.ensures c.in_ok-counts.ensures)
    (c.link_cost-cost.ensures.value ∙ ap (link_cost l) c.items.ensures)
