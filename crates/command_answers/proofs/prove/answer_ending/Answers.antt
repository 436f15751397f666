use Rattle.std.proofs.Common.{inr, subst}
use Rattle.net_core.proofs.Library.{IfOk-weaker}
use Rattle.plan_terms.specs.Terms.{case_of}
use Rattle.proof_report.specs.ProvedReports.{IsProofEnding}
use Rattle.command_answers.proofs.prove.answer_ending.Goals as goal

pub answer_proved-requires : goal.answer_proved-requires
answer_proved-requires c = let i = c.args.instance.now in subst (IsProofEnding (case_of i) i.net.now.notes c.args.limit) c.in-Proved.is c.requires

pub separated-requires : goal.separated-requires
separated-requires c = let i = c.args.instance.now in subst (IsProofEnding (case_of i) i.net.now.notes c.args.limit) c.in-Separated.is c.requires

pub returns-in-Separated : goal.returns-in-Separated
returns-in-Separated c = IfOk-weaker c.separated.result _ _ (λ a is. inr is) c.separated.ensures
