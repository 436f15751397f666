use Rattle.plan_terms.proofs.Lemmas.{divisor_one}
use Rattle.master_bound.proofs.Amounts.{divisor_more}
use Rattle.master_bound.proofs.lines.common_divisor.Goals as goal

pub loop-other-init : goal.loop-other-init
loop-other-init c = divisor_one c.args.number

pub loop-other-preserved : goal.loop-other-preserved
loop-other-preserved c = divisor_more c.args.number c.args.others.now c.loop-other.other-index c.loop-other.common c.gcd-common.result c.loop-other-test.true c.loop-other.invariant c.gcd-common.ensures
