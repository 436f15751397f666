use Rattle.std.proofs.Common.{subst, sym}
use Rattle.plan_terms.specs.Terms.{load}
use Rattle.module_choice.specs.inner.Routes.{weight}
use Rattle.plan_checker.{specs.inner.Mixed.AreMixed, proofs.FlowSums.mixed_same}
use Rattle.plan_checker.proofs.overloads.first_overloaded.Goals as goal

pub returns : goal.returns
returns c =
    let r = c.args.routing.now in
    c.first_over.ensures r.den (load r.flows) (mixed_same r.den (weight r.flows) (load r.flows) c.deref.result.now (λ e. sym (c.requires.once e))
    (subst (λ fs. AreMixed r.den (weight fs) c.deref.result.now) c.items.ensures (subst (AreMixed r.den (weight c.items.result.now)) (sym c.deref.ensures.value) c.in_ok-loads.ensures.1)))
