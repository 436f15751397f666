use Rattle.std.proofs.Common.{◌∙◌, length, subst}
use Rattle.net_core.proofs.Library.{IfOk-weaker}
use Rattle.module_prices.{specs.inner.Dearest.{ArePriced, IsDearestSoFar}, proofs.UnitCosts.priced_lengths}
use Rattle.module_prices.proofs.lengths.price_lengths.Goals as goal

pub returns-clause-prices : goal.returns-clause-prices
returns-clause-prices c =
    let links = c.args.net.now.links in
    let same = c.items-links.ensures ∙ c.links.ensures in
    IfOk-weaker c.lengths_of.result _ _ (λ lengths priced. priced_lengths links c.dearest.result lengths (subst (λ ls. IsDearestSoFar ls (length ls) c.dearest.result) same c.dearest.ensures) (subst (λ ls. ArePriced ls c.dearest.result lengths) same priced)) c.lengths_of.ensures
