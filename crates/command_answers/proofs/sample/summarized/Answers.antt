use Rattle.plan_terms.specs.Terms.{case_of}
use Rattle.command_answers.proofs.SinglePlans.{plan_summary}
use Rattle.command_answers.proofs.sample.summarized.Goals as goal

pub returns-clause-summary : goal.returns-clause-summary
returns-clause-summary c =
    plan_summary (case_of c.args.instance.now) c.args.instance.now.net.now.notes c.args.planned.now c.requires c.args.seed c.args.nodes c.in_ok-text.text c.in_ok-text.ensures
