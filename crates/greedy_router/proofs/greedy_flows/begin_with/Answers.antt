use Rattle.std.proofs.Common.{◌≡◌, ◌<◌, ◌∙◌, All, length, sym, subst, arith}
use Rattle.net_core.proofs.Library.{slice_get_within, All-from_recursion}
use Rattle.plan_terms.{specs.Terms.{IsFlow, Joins, LinkId, graph_of}, proofs.Lemmas.path_links_inside}
use Rattle.greedy_router.{proofs.Adding.{draft_again, draft_none}, proofs.Differing.path_differs}
use Rattle.greedy_router.proofs.greedy_flows.begin_with.Goals as goal

pub loop-flow-init : goal.loop-flow-init
loop-flow-init c =
    let task = c.args.task.now in
    let caps = task.caps.now in
    let e = c.in_ok-draft.ensures in
    draft_none (Joins (graph_of task.graph)) task.demands.now caps.scale caps.nums c.in_ok-draft.draft e.flows (rw c.items.ensures at e.rest) e.spares

pub send_again-requires-clause-demand : goal.send_again-requires-clause-demand
send_again-requires-clause-demand c =
    let task = c.args.task.now in
    let is = subst (IsFlow (Joins (graph_of task.graph)) task.demands.now) (sym c.flow-item.is) (c.requires c.loop-flow.flow-index c.flow-item.result c.loop-flow-test.true) in
    omega (arith, slice_get_within task.demands.now c.flow-item.result.demand is.of is.at, c.loop-flow.invariant.rests)

pub send_again-requires-clause-known : goal.send_again-requires-clause-known
send_again-requires-clause-known c =
    let task = c.args.task.now in
    let g = graph_of task.graph in
    let is = subst (IsFlow (Joins g) task.demands.now) (sym c.flow-item.is) (c.requires c.loop-flow.flow-index c.flow-item.result c.loop-flow-test.true) in
    let same : length c.loop-flow.draft.spares ≡ length g.links = c.loop-flow.invariant.links ∙ task.count in
    subst (λ n. All (λ (e : LinkId). e.0 < n) c.flow-item.result.path) (sym same)
    (All-from_recursion (λ (e : LinkId). e.0 < length g.links) c.flow-item.result.path (path_links_inside g is.of.from.0 is.of.to.0 c.flow-item.result.path is.path))

pub send_again-requires-clause-distinct : goal.send_again-requires-clause-distinct
send_again-requires-clause-distinct c =
    let task = c.args.task.now in
    let g = graph_of task.graph in
    let is = subst (IsFlow (Joins g) task.demands.now) (sym c.flow-item.is) (c.requires c.loop-flow.flow-index c.flow-item.result c.loop-flow-test.true) in
    path_differs g is.of.from.0 is.of.to.0 c.flow-item.result.path is.path

pub loop-flow-preserved : goal.loop-flow-preserved
loop-flow-preserved c =
    let task = c.args.task.now in
    let caps = task.caps.now in
    let joins = Joins (graph_of task.graph) in
    let is = subst (IsFlow joins task.demands.now) (sym c.flow-item.is) (c.requires c.loop-flow.flow-index c.flow-item.result c.loop-flow-test.true) in
    draft_again joins task.demands.now caps.scale caps.nums c.flow-item.result c.loop-flow.draft c.send_again.new.draft is c.in_ok-send_again.ensures c.loop-flow.invariant
