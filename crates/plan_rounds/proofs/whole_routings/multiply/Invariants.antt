use Rattle.plan_rounds.proofs.Multiplying.{AreMultiplied}
use Rattle.plan_rounds.proofs.whole_routings.multiply.Given as goal

-- the flows so far are multiplied
abbrev pub invariant-loop-i : goal.invariant-loop-i
invariant-loop-i l = AreMultiplied l.factor l.i l.initial.flows l.flows
