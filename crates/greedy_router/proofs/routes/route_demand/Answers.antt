use Rattle.std.proofs.Common.{◌∙◌}
use Rattle.plan_terms.specs.Terms.{Joins, graph_of}
use Rattle.greedy_router.{proofs.Adding.{adds_more, sent_fewer}, proofs.Differing.path_differs}
use Rattle.greedy_router.proofs.routes.route_demand.Goals as goal

pub send-requires-clause-distinct : goal.send-requires-clause-distinct
send-requires-clause-distinct c =
    let found = rw (c.in-Some.is, c.items-in-loop-alloc.ensures, c.loop-alloc.invariant.0) at c.in_ok-path.ensures.found in
    path_differs (graph_of c.args.finder.now.graph) c.args.d.now.from.0 c.args.d.now.to.0 c.in-Some.path found.leads

pub loop-alloc-smaller : goal.loop-alloc-smaller
loop-alloc-smaller c =
    let found = rw (c.in-Some.is, c.items-in-loop-alloc.ensures, c.loop-alloc.invariant.0) at c.in_ok-path.ensures.found in
    let missing = rw c.items.ensures at c.loop-alloc-test.true in
    sent_fewer c.args.k c.in-Some.path c.loop-alloc.draft c.send.new.draft c.in_ok-send-in-Some.ensures found.room missing

pub loop-alloc-preserved : goal.loop-alloc-preserved
loop-alloc-preserved c =
    let found = rw (c.in-Some.is, c.items-in-loop-alloc.ensures, c.loop-alloc.invariant.0) at c.in_ok-path.ensures.found in
    let missing = rw c.items.ensures at c.loop-alloc-test.true in
    let adds = adds_more (Joins (graph_of c.args.finder.now.graph)) c.args.k c.args.d.now c.in-Some.path c.args.draft.now c.loop-alloc.draft c.send.new.draft c.loop-alloc.invariant.1 found.leads found.room missing c.in_ok-send-in-Some.ensures in
    (c.open_path.ensures.graph ∙ c.loop-alloc.invariant.0, adds)

pub returns-in-None-clause-blocked : goal.returns-in-None-clause-blocked
returns-in-None-clause-blocked c = λ missing.
    rw (c.in-None.is, c.items-in-loop-alloc.ensures, c.loop-alloc.invariant.0) at c.in_ok-path.ensures.found
