use Rattle.plan_terms.proofs.Lemmas.{ratio_quotient}
use Rattle.metric_cut.proofs.multiplier.greatest_multiplier.Goals as goal

pub nonzero_div-result : goal.nonzero_div-result
nonzero_div-result c = (ratio_quotient c.args.links.now c.args.lengths.now _ _ _ c.least_ratio-ratio.ensures.least c.gcd-common.ensures).0

pub nonzero_div-result-2 : goal.nonzero_div-result-2
nonzero_div-result-2 c = (ratio_quotient c.args.links.now c.args.lengths.now _ _ _ c.least_ratio-ratio.ensures.least c.gcd-common.ensures).0

pub returns-clause-greatest : goal.returns-clause-greatest
returns-clause-greatest c = (ratio_quotient c.args.links.now c.args.lengths.now _ _ _ c.least_ratio-ratio.ensures.least c.gcd-common.ensures).1
