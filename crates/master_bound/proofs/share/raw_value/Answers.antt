use Rattle.std.proofs.Common.{sym}
use Rattle.net_core.proofs.Library.{div-mul_cancel, positive_divisor}
use Rattle.plan_terms.proofs.Lemmas.{lowest_terms}
use Rattle.master_bound.proofs.share.raw_value.Goals as goal

pub nonzero_div-result : goal.nonzero_div-result
nonzero_div-result c = positive_divisor c.gcd-common.result c.args.share.now.scale c.requires.scale c.gcd-common.ensures.1

pub nonzero_div-result-2 : goal.nonzero_div-result-2
nonzero_div-result-2 c = positive_divisor c.gcd-common.result c.args.share.now.scale c.requires.scale c.gcd-common.ensures.1

pub returns : goal.returns
returns c =
    let gcd = c.gcd-common.ensures in
    let cost = c.cost_of-cost.result in
    rw (sym (rw c.items.ensures at c.cost_of-cost.ensures))
    (lowest_terms cost c.args.share.now.scale c.gcd-common.result _ _ c.requires.scale gcd (sym (div-mul_cancel c.gcd-common.result gcd.0)) (sym (div-mul_cancel c.gcd-common.result gcd.1)))
