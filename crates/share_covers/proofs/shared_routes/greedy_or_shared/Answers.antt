use Rattle.std.{proofs.Common.{◌+◌, length, subst}, proofs.lemmas.Result.IfOk-weaker}
use Rattle.plan_terms.specs.Terms.{case_of, graph_in}
use Rattle.share_covers.{specs.inner.SharedRoutes.{IsStateAnswer, IsWholeAnswer}, proofs.Sharing.{den_at_whole, left_routed, most_same, shared_answer}}
use Rattle.share_covers.proofs.shared_routes.greedy_or_shared.Goals as goal

pub returns-then-is_whole : goal.returns-then-is_whole
returns-then-is_whole c =
    let p = case_of c.args.instance.now in
    left_routed (graph_in p c.args.state.0) (length p.nodes) p.demands c.args.instance.now.belong c.args.caps.now c.in_ok-left.left c.requires.carries.scale_one c.requires.caps c.in_ok-left.ensures
    (c.is_whole.ensures.0 c.if-is_whole.true)

pub whole_routing-requires-clause-den : goal.whole_routing-requires-clause-den
whole_routing-requires-clause-den c =
    let p = case_of c.args.instance.now in
    den_at_whole (graph_in p c.args.state.0) p.demands c.args.caps.now c.args.scale c.args.shared.now c.requires.carries

pub returns : goal.returns
returns c =
    let p = case_of c.args.instance.now in
    let g = graph_in p c.args.state.0 in
    let shared = c.args.shared.now in
    let most = most_same c.len.result c.len-2.result p.links c.links.result.now p.demands c.len.ensures c.links.ensures c.len-2.ensures in
    IfOk-weaker c.whole_routing.result (IsWholeAnswer c.args.scale (c.len.result + c.len-2.result) shared) (IsStateAnswer g p.demands c.args.caps.now c.args.scale shared)
    (λ o is. shared_answer g (length p.nodes) p.demands c.args.instance.now.belong c.args.caps.now c.args.scale shared c.requires.carries o (subst (λ m. IsWholeAnswer c.args.scale m shared o) most is))
    c.whole_routing.ensures
