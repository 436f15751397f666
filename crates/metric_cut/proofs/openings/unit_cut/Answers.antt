use Rattle.std.proofs.Common.{◌≡◌, ◌∙◌, ℕ, IfOk, ap, length, replicate, subst}
use Rattle.plan_terms.specs.Terms.{graph_of}
use Rattle.metric_cut.specs.Cuts.{MayKeepCut}
use Rattle.metric_cut.proofs.openings.unit_cut.Goals as goal

pub returns : goal.returns
returns c =
    let g = graph_of c.args.graph.now in
    let units : c.in_ok-units.units ≡ replicate (length g.links) 1 = c.in_ok-units.ensures ∙ ap (λ (n : ℕ). replicate n 1) (c.len.ensures ∙ ap length c.links.ensures) in
    subst (λ lengths. IfOk c.in_graph.result (MayKeepCut g lengths)) units c.in_graph.ensures.kept
