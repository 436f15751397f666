use Rattle.net_core.proofs.Library.{IfOk-weaker}
use Rattle.metric_cut.proofs.openings.price_cut.Goals as goal

pub returns : goal.returns
returns c = IfOk-weaker c.in_graph.result _ _ (λ cut kept. (c.in_ok-prices.prices, c.in_ok-prices.ensures.prices, kept)) c.in_graph.ensures.kept
