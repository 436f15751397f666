use Rattle.net_core.proofs.Networks.{few_links}
use Rattle.plan_terms.specs.Terms.{graph_of}
use Rattle.metric_cut.proofs.Keepings.{kept_have_bound}
use Rattle.node_sets.{specs.inner.Members.is_in, proofs.Boundaries.boundary_priced}
use Rattle.node_sets.proofs.boundary.if_violated.Goals as goal

pub returns-then-branch : goal.returns-then-branch
returns-then-branch c =
    let net = c.args.task.now.graph.net.now in
    let g = graph_of c.args.task.now.graph in
    record {
      of = c.requires.of;
      is_member = is_in c.args.set;
      priced = boundary_priced g (is_in c.args.set) c.args.cut.lengths (few_links net.nodes net.links net.checked) c.requires.keeps (kept_have_bound g c.args.cut.lengths c.requires.of.kept);
      keeps = c.requires.keeps;
      violated = c.in_ok-is_violated.ensures.violated c.if-branch.true;
    }
