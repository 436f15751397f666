use Rattle.std.proofs.Common.{subst, sym}
use Rattle.plan_terms.specs.Terms.{sent}
use Rattle.plan_checker.specs.inner.Mixed.{AreMixed}
use Rattle.plan_checker.proofs.overloads.first_uncarried.Goals as goal

pub returns : goal.returns
returns c =
    let r = c.args.routing.now in
    c.first_other.ensures r.den (sent r.flows)
    (subst (λ fs. AreMixed r.den (sent fs) c.deref.result.now) c.items.ensures (subst (AreMixed r.den (sent c.items.result.now)) (sym c.deref.ensures.value) c.in_ok-sums.ensures.1))
