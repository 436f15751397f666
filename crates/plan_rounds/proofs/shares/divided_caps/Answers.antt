use Rattle.std.proofs.Common.{subst}
use Rattle.plan_rounds.{specs.inner.Sharing.DividesAll, proofs.Sharing.divided_caps}
use Rattle.plan_rounds.proofs.shares.divided_caps.Goals as goal

pub numbers_over-requires-clause-divides : goal.numbers_over-requires-clause-divides
numbers_over-requires-clause-divides c = rw c.items-2.ensures (rw c.items.ensures at c.scale_divisor-divisor.ensures.of_nums)

pub returns : goal.returns
returns c =
    divided_caps c.args.whole c.in_ok-nums.nums c.scale_divisor-divisor.result
    (subst (λ ns. DividesAll c.args.whole.scale ns c.scale_divisor-divisor.result) c.items.ensures c.scale_divisor-divisor.ensures)
    (rw c.items-2.ensures at c.in_ok-nums.ensures)
