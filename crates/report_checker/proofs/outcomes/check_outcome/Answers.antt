use Rattle.plan_terms.specs.Terms.{case_of}
use Rattle.report_checker.proofs.There.{sound_there, told_there}
use Rattle.report_checker.proofs.outcomes.check_outcome.Goals as goal

pub returns-clause-told : goal.returns-clause-told
returns-clause-told c =
    told_there (case_of c.args.instance.now) c.args.report.now c.args.outcome.now c.args.walk.now c.requires.passed c.demands.result.now c.demands.ensures c.check_claim.result
    c.in_ok-check_version.ensures (rw c.len-full.ensures at c.check_claim.ensures.told)

pub returns-clause-sound : goal.returns-clause-sound
returns-clause-sound c =
    sound_there (case_of c.args.instance.now) c.args.report.now c.args.outcome.now c.args.walk.now c.requires.passed c.demands.result.now c.demands.ensures c.check_claim.result c.check_claim.ensures.sound
