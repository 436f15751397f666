use Rattle.std.proofs.Common.{◌<◌, get_or, subst, arith, get_or-take, length-take-le}
use Rattle.net_core.proofs.Library.{All-more}
use Rattle.plan_terms.specs.Terms.{LinkId}
use Rattle.greedy_router.proofs.sent_flows.is_open.Goals as goal

abbrev first_link : LinkId
first_link = record { 0 = 0 }

pub loop-e-preserved : goal.loop-e-preserved
loop-e-preserved c =
    All-more (λ (e : LinkId). 0 < get_or c.args.spares.now e.0 0) c.args.path.now c.loop-e.e-index first_link c.loop-e-test.true c.loop-e.invariant (omega (arith, c.if-spares-e-eq0.false))

pub returns : goal.returns
returns c _ = λ k d lt.
    let path = c.args.path.now in
    let n = c.loop-e.e-index in
    let all = length-take-le n path (omega (arith, c.loop-e.auto.e-index-end)) in
    subst (λ (x : LinkId). 0 < get_or c.args.spares.now x.0 0) (get_or-take n path k d (omega (arith, lt, c.loop-e-test.false)))
    (c.loop-e.invariant k d (omega (arith, all, lt, c.loop-e-test.false)))
