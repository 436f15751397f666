use Rattle.plan_terms.specs.Terms.{case_of}
use Rattle.report_checker.proofs.OnOneWalk.{sound_met, stopped_met}
use Rattle.report_checker.proofs.outcomes.check_outcome_if_here.Goals as goal

pub returns-clause-sound : goal.returns-clause-sound
returns-clause-sound c = sound_met (case_of c.args.instance.now) c.args.report.now c.args.outcome.now c.args.place c.check_outcome.result c.check_outcome.ensures.told c.check_outcome.ensures.sound

pub returns-clause-stopped : goal.returns-clause-stopped
returns-clause-stopped c = stopped_met (case_of c.args.instance.now) c.args.report.now c.args.outcome.now c.check_outcome.result c.check_outcome.ensures.told
