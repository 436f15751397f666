use Rattle.std.proofs.Common.{arith}
use Rattle.failure_states.proofs.Splits.{states_more}
use Rattle.failure_states.proofs.separations.first_of_states.Goals as goal

pub loop-s-preserved : goal.loop-s-preserved
loop-s-preserved c =
    (omega (arith, c.first_in_state.ensures.size, c.loop-s.invariant.0), states_more _ _ c.in_default.ensures.first c.loop-s.invariant.1)

pub returns : goal.returns
returns c = λ s k le. c.loop-s.invariant.1 s k (omega arith)
