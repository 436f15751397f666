use Rattle.std.proofs.Common.{false, refl}
use Rattle.net_core.proofs.Library.{both_ways}
use Rattle.failure_states.proofs.Splits.{split_test, split_more, split_none}
use Rattle.failure_states.proofs.separations.first_split.Goals as goal

pub loop-k-preserved : goal.loop-k-preserved
loop-k-preserved c = split_more _ _ _
    (λ s. both_ways false refl (c.if-is_split.ensures.1 (split_test _ _ _ _ c.loop-k-test.true c.index-demands-k.is s)))
    c.loop-k.invariant

pub returns : goal.returns
returns c = split_none _ _ _ c.loop-k-test.false c.loop-k.invariant
