use Rattle.plan_terms.specs.Terms.{case}
use Rattle.report_checker.proofs.Reports.{bounds_hold, never_accepted, report_told, whole_stops}
use Rattle.report_checker.proofs.report.check_report.Goals as goal

pub returns-in-Ok-clause-told : goal.returns-in-Ok-clause-told
returns-in-Ok-clause-told c =
    report_told c.args.net.now.notes (case c.args.net.now c.args.states.now c.args.opening.now) c.args.report.now c.check_outcomes.result c.in-Ok.ensures c.check_outcomes.ensures.told

pub returns-in-Err-clause-told : goal.returns-in-Err-clause-told
returns-in-Err-clause-told c =
    whole_stops c.args.net.now.notes (case c.args.net.now c.args.states.now c.args.opening.now) c.args.report.now c.in-Err.stop c.answer_of.result c.in-Err.ensures c.answer_of.ensures

pub returns-in-Err-clause-sound : goal.returns-in-Err-clause-sound
returns-in-Err-clause-sound c = λ accepted. absurd (never_accepted c.in-Err.stop c.answer_of.result c.answer_of.ensures accepted)

pub returns-in-Ok-clause-bound : goal.returns-in-Ok-clause-bound
returns-in-Ok-clause-bound c = λ accepted. bounds_hold (case c.args.net.now c.args.states.now c.args.opening.now) c.args.report.now (c.check_outcomes.ensures.sound accepted)

pub returns-in-Err-clause-bound : goal.returns-in-Err-clause-bound
returns-in-Err-clause-bound c = λ accepted. absurd (never_accepted c.in-Err.stop c.answer_of.result c.answer_of.ensures accepted)
