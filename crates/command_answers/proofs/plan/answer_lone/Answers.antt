use Rattle.std.proofs.Common.{inr, subst}
use Rattle.net_core.proofs.Library.{IfOk-weaker}
use Rattle.plan_terms.specs.Terms.{case_of}
use Rattle.plan_reports.specs.Terms.{IsLoneAnswer}
use Rattle.command_answers.proofs.plan.answer_lone.Goals as goal

pub answer_planned-requires : goal.answer_planned-requires
answer_planned-requires c = let i = c.args.instance.now in subst (IsLoneAnswer (case_of i) i.net.now.notes) c.in-Planned.is c.requires

pub separated-requires : goal.separated-requires
separated-requires c = let i = c.args.instance.now in subst (IsLoneAnswer (case_of i) i.net.now.notes) c.in-Separated.is c.requires

pub returns-in-Separated : goal.returns-in-Separated
returns-in-Separated c = IfOk-weaker c.separated.result _ _ (λ a is. inr is) c.separated.ensures
