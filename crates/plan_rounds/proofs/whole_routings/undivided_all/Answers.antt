use Rattle.std.{proofs.Common.{◌<◌, ◌*◌, ◌^◌, All, List, ap, arith, length, subst}, specs.Vec.Iter.into_iter_items}
use Rattle.net_core.proofs.Library.{All-tail}
use Rattle.plan_terms.specs.Terms.{Routing}
use Rattle.plan_rounds.proofs.Undividing.{IsUnderWay, under_way_more}
use Rattle.plan_rounds.proofs.whole_routings.undivided_all.Goals as goal

pub loop-routing-preserved : goal.loop-routing-preserved
loop-routing-preserved c =
    let divisor = c.args.divisor in
    let a = c.in-Some.routing in
    let rest = into_iter_items c.next.new.self in
    let step = c.in-Some.ensures.steps in
    let so_far = c.loop-routing.invariant in
    let positive : Routing → Type 0 = λ r. 0 < r.den in
    let fits : Routing → Type 0 = λ r. All (λ f. divisor * f.num < 2 ^ 124) r.flows in (
      rw c.in_ok-push.ensures.ok (under_way_more divisor c.args.routings rest c.loop-routing.whole a c.undivided.result (subst (λ (l : List Routing). IsUnderWay divisor c.args.routings l c.loop-routing.whole) step.0 so_far.0) c.undivided.ensures),
      All-tail positive a rest (subst (All positive) step.0 so_far.1),
      All-tail fits a rest (subst (All fits) step.0 so_far.2),
      omega (arith, step.1, so_far.3, ap length step.0),
    )
