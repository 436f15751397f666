use Rattle.std.proofs.Common.{sym}
use Rattle.net_core.proofs.Library.{div-mul_cancel, positive_divisor}
use Rattle.plan_terms.proofs.Lemmas.{lowest_terms}
use Rattle.metric_cut.proofs.certificate.lowest.Goals as goal

pub nonzero_div-result : goal.nonzero_div-result
nonzero_div-result c = positive_divisor c.gcd-common.result c.args.den c.requires c.gcd-common.ensures.1

pub nonzero_div-result-2 : goal.nonzero_div-result-2
nonzero_div-result-2 c = positive_divisor c.gcd-common.result c.args.den c.requires c.gcd-common.ensures.1

pub returns : goal.returns
returns c =
    let gcd = c.gcd-common.ensures in
    lowest_terms c.args.num c.args.den c.gcd-common.result _ _ c.requires gcd
    (sym (div-mul_cancel c.gcd-common.result gcd.0)) (sym (div-mul_cancel c.gcd-common.result gcd.1))
