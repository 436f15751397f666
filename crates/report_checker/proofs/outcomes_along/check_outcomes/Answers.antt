use Rattle.plan_terms.specs.Terms.{case_of}
use Rattle.report_checker.proofs.outcomes_along.check_outcomes.Goals as goal

pub returns-in-Ok-clause-told : goal.returns-in-Ok-clause-told
returns-in-Ok-clause-told c = c.answer_of_all.ensures.told (case_of c.args.instance.now) c.args.report.now c.in-Ok.ensures

pub returns-in-Ok-clause-sound : goal.returns-in-Ok-clause-sound
returns-in-Ok-clause-sound c = c.answer_of_all.ensures.sound (case_of c.args.instance.now) c.args.report.now c.in-Ok.ensures
