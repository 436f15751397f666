use Rattle.metric_cut.proofs.Keepings.{divisor_step}
use Rattle.flow_router.proofs.link_lengths.common_price.Goals as goal

pub loop-price-preserved : goal.loop-price-preserved
loop-price-preserved c = divisor_step c.loop-price.price-index c.args.prices.now _ c.loop-price.common c.gcd-common.result c.loop-price-test.true c.loop-price.invariant c.gcd-common.ensures
