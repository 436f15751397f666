use Rattle.std.proofs.Common.{arith}
use Rattle.view_state.proofs.names.named_state.Goals as goal

pub returns : goal.returns
returns c = λ s h. c.loop-state.invariant s (omega (arith, c.loop-state-test.false, h.within)) h.named
