use Rattle.std.proofs.Common.{sym}
use Rattle.net_core.proofs.Library.{div-mul_cancel, positive_divisor}
use Rattle.plan_terms.proofs.Lemmas.{lowest_terms}
use Rattle.module_prices.proofs.cheapest.reduced.Goals as goal

pub nonzero_div-result : goal.nonzero_div-result
nonzero_div-result c = positive_divisor _ c.args.m.now.capacity c.requires.carries c.gcd-common.ensures.1

pub nonzero_div-result-2 : goal.nonzero_div-result-2
nonzero_div-result-2 c = positive_divisor _ c.args.m.now.capacity c.requires.carries c.gcd-common.ensures.1

pub returns : goal.returns
returns c =
    let m = c.args.m.now in
    let gcd = c.gcd-common.ensures in
    lowest_terms m.cost m.capacity c.gcd-common.result _ _ c.requires.carries gcd (sym (div-mul_cancel c.gcd-common.result gcd.0)) (sym (div-mul_cancel c.gcd-common.result gcd.1))
