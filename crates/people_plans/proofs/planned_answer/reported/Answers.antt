use Rattle.std.proofs.Common.{refl}
use Rattle.people_plans.proofs.planned_answer.reported.Goals as goal

pub returns : goal.returns
returns c =
    let text = c.in_ok-text.ensures in
    (refl, record { report = c.args.report; proved = c.requires; printed = (text.text, text.spelled, c.in_ok-message.ensures) })
