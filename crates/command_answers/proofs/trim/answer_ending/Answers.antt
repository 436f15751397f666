use Rattle.std.proofs.Common.{inr, subst}
use Rattle.net_core.proofs.Library.{IfOk-weaker}
use Rattle.plan_terms.specs.Terms.{case_of}
use Rattle.proof_report.specs.Terms.{IsTrimEnding}
use Rattle.command_answers.proofs.trim.answer_ending.Goals as goal

pub answer_trimmed-requires : goal.answer_trimmed-requires
answer_trimmed-requires c = let i = c.args.instance.now in subst (IsTrimEnding (case_of i) i.net.now.notes) c.in-Trimmed.is c.requires

pub separated-requires : goal.separated-requires
separated-requires c = let i = c.args.instance.now in subst (IsTrimEnding (case_of i) i.net.now.notes) c.in-Separated.is c.requires

pub returns-in-Separated : goal.returns-in-Separated
returns-in-Separated c = IfOk-weaker c.separated.result _ _ (λ a is. inr is) c.separated.ensures
