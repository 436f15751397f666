use Rattle.plan_rounds.proofs.Sharing.{over_more}
use Rattle.plan_rounds.proofs.shares.numbers_over.Goals as goal

pub loop-n-preserved : goal.loop-n-preserved
loop-n-preserved c =
    rw c.in_ok-push.ensures.ok (over_more c.args.divisor c.args.nums.now c.loop-n.divided c.loop-n.n-index 0 c.loop-n-test.true (c.requires.divides c.loop-n.n-index 0 c.loop-n-test.true) c.loop-n.invariant)
