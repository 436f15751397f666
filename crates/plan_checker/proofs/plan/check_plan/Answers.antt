use Rattle.plan_terms.{specs.Terms.case, proofs.Lemmas.weak_duality}
use Rattle.plan_types.specs.Terms.{lines_of_certificate}
use Rattle.plan_checker.proofs.plan.check_plan.Goals as goal

pub returns-in-Ok-clause-bound : goal.returns-in-Ok-clause-bound
returns-in-Ok-clause-bound c = λ accepted counts able.
    let plan = c.args.plan.now in
    let certified = c.in-Ok.ensures.sound.certified in
    weak_duality (case c.args.net.now c.args.states.now c.args.demands.now) plan.certificate.den (lines_of_certificate plan.certificate) plan.bound counts certified.certificate certified.rounded able
