use Rattle.std.proofs.Common.{subst, arith}
use Rattle.net_core.proofs.Networks.{few_links}
use Rattle.plan_terms.specs.Terms.{case_of, graph_in}
use Rattle.plan_swaps.{specs.Terms.IsFinding, proofs.Lemmas.{routed_within, survivable_joins}}
use Rattle.tree_boxes.proofs.large.route_in.Goals as goal

pub separate_state-requires-clause-joined : goal.separate_state-requires-clause-joined
separate_state-requires-clause-joined c = survivable_joins (case_of c.args.instance.now) c.args.state.0 c.requires.survivable c.requires.state

pub returns-in-Routed : goal.returns-in-Routed
returns-in-Routed c =
    let p = case_of c.args.instance.now in
    let s = c.args.state.0 in
    let caps = c.args.caps.now in
    routed_within p s caps c.requires.scale c.args.instance.now.belong (few_links p.nodes p.links c.args.instance.now.net.now.checked) c.in-Routed.routing
    (subst (IsFinding (graph_in p s) p.demands caps) c.in-Routed.is c.in_ok-routing.ensures.found)

pub returns : goal.returns
returns c =
    let p = case_of c.args.instance.now in
    let s = c.args.state.0 in
    record {
      state = s;
      listed_state = omega (arith, c.requires.state);
      here = subst (IsFinding (graph_in p s) p.demands c.args.caps.now) c.in-Wide.is c.in_ok-routing.ensures.found;
    }
