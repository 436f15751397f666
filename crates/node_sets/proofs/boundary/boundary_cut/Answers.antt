use Rattle.std.proofs.Common.{ap, cond, length, subst, ◌∙◌}
use Rattle.net_core.proofs.Library.{length-map}
use Rattle.plan_terms.specs.Terms.{graph_of, Link, Keeps}
use Rattle.metric_cut.specs.Cuts.{IsCutOf, MayKeepCut}
use Rattle.node_sets.{specs.Boundaries.{boundary_lengths, crosses_boundary}, specs.inner.Members.is_in}
use Rattle.node_sets.proofs.boundary.boundary_cut.Goals as goal

-- what the surviving graph gives is what it keeps of the lengths
kept_cut : (c : goal.In-Some) → Keeps (graph_of c.args.task.now.graph) c.in_ok-lengths.lengths c.in-Some.cut.lengths × IsCutOf (graph_of c.args.task.now.graph) c.in-Some.cut
kept_cut c = subst (MayKeepCut (graph_of c.args.task.now.graph) c.in_ok-lengths.lengths) c.in-Some.is c.in_ok-found.ensures.kept

pub in_graph-requires : goal.in_graph-requires
in_graph-requires c =
    record { lengths = ap length c.in_ok-lengths.ensures ∙ length-map c.items.result.now (λ (l : Link). cond (crosses_boundary (is_in c.args.set) l) 1 0) ∙ ap length (c.items.ensures ∙ c.links.ensures) }

pub if_violated-requires-clause-of : goal.if_violated-requires-clause-of
if_violated-requires-clause-of c = (kept_cut c).1

pub if_violated-requires-clause-keeps : goal.if_violated-requires-clause-keeps
if_violated-requires-clause-keeps c =
    subst (λ lengths. Keeps (graph_of c.args.task.now.graph) lengths c.in-Some.cut.lengths)
    (c.in_ok-lengths.ensures ∙ ap (boundary_lengths (is_in c.args.set)) (c.items.ensures ∙ c.links.ensures)) (kept_cut c).0
