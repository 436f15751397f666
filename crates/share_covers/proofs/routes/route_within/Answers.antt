use Rattle.std.proofs.Common.{◌+◌, arith, subst, sym}
use Rattle.plan_terms.specs.Terms.{graph_in, case_of}
use Rattle.flow_mending.specs.Terms.{IsRouteAnswer}
use Rattle.share_covers.proofs.StateRoutes.{AreRoutedTo, routed_more, short_state, survivable_joined}
use Rattle.share_covers.proofs.routes.route_within.Goals as goal

pub route_state-requires-clause-joined : goal.route_state-requires-clause-joined
route_state-requires-clause-joined c = survivable_joined (case_of c.args.instance.now) c.args.caps.now c.loop-s.s c.requires.survivable (omega (arith, c.loop-s-test.true, c.count-s-end.ensures))

pub returns-in-Violated : goal.returns-in-Violated
returns-in-Violated c =
    let p = case_of c.args.instance.now in
    let caps = c.args.caps.now in
    let s = c.loop-s.s in
    record {
      listed_state = omega (arith, c.loop-s-test.true, c.count-s-end.ensures);
      none = short_state p caps s c.in-Violated.field-0 c.args.instance.now.belong c.requires.caps (subst (IsRouteAnswer (graph_in p s) p.demands caps) c.in-Violated.is c.in_ok-routing.ensures);
    }

pub loop-s-preserved : goal.loop-s-preserved
loop-s-preserved c =
    let p = case_of c.args.instance.now in
    let caps = c.args.caps.now in
    let s = c.loop-s.s in
    subst (AreRoutedTo p caps (s + 1)) (sym c.in_ok-push-in-Routed.ensures.ok)
    (routed_more p caps s c.loop-s.routings c.in-Routed.routing c.loop-s.invariant (subst (IsRouteAnswer (graph_in p s) p.demands caps) c.in-Routed.is c.in_ok-routing.ensures))
