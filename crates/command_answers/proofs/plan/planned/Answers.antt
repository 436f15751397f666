use Rattle.std.proofs.Common.{◌≡◌, IfOk, subst}
use Rattle.plan_report.specs.Terms.{known_of, report_text}
use Rattle.outside_io.specs.declared.answer.Answer.{Answer}
use Rattle.command_answers.proofs.plan.planned.Goals as goal

pub returns-clause-text : goal.returns-clause-text
returns-clause-text c =
    subst (λ r. IfOk c.reported.result (λ (a : Answer). a.text ≡ report_text (known_of c.args.net.now c.args.states.now) r)) c.in_ok-report.ensures c.reported.ensures.text
