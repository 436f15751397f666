use Rattle.std.proofs.Common.{subst}
use Rattle.warm_routing.specs.WarmAnswers.{IsWarmAnswer}
use Rattle.separator.proofs.one_state.answer_of.Goals as goal

pub returns-in-Violated : goal.returns-in-Violated
returns-in-Violated c g demands caps is = subst (IsWarmAnswer g demands caps) c.in-Violated.is is

pub returns-in-Routed : goal.returns-in-Routed
returns-in-Routed c g demands caps is = subst (IsWarmAnswer g demands caps) c.in-Routed.is is
