use Rattle.std.proofs.Common.{◌≡◌, ◌∙◌, get_or, refl, subst}
use Rattle.plan_terms.specs.Terms.{graph_of}
use Rattle.short_paths.proofs.Walks.{far_joins}
use Rattle.short_paths.proofs.walk.next_node.Goals as goal

pub returns-clause-some : goal.returns-clause-some
returns-clause-some c =
    let l = c.index-items-link.result in
    far_joins (graph_of c.args.graph.now) c.args.link.0 c.args.at.0 l c.far_end.result c.requires
    (subst (λ ls. l ≡ get_or ls c.args.link.0 l) (c.items.ensures ∙ c.links.ensures) c.index-items-link.is) (c.if-not-has.ensures.0 refl) c.far_end.ensures
