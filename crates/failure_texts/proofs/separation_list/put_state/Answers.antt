use Rattle.std.proofs.Common.{arith}
use Rattle.plan_terms.specs.Terms.{case_of}
use Rattle.failure_texts.proofs.Growing.{state_before}
use Rattle.failure_texts.proofs.separation_list.put_state.Goals as goal

pub returns : goal.returns
returns c = state_before (case_of c.args.instance.now) c.args.state.0 c.loop-k.k c.loop-k.found c.loop-k.invariant (omega (arith, c.loop-k-test.false))
