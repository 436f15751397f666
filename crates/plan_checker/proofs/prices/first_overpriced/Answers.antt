use Rattle.std.proofs.Common.{◌*◌, ◌<◌, refl}
use Rattle.net_core.proofs.Library.{false≢true}
use Rattle.plan_terms.specs.Terms.{Module}
use Rattle.plan_checker.proofs.Places.{holds_read, none_at_all, none_read}
use Rattle.plan_checker.proofs.prices.first_overpriced.Goals as goal

pub loop-m-preserved : goal.loop-m-preserved
loop-m-preserved c = none_read c.args.modules.now (λ k (x : Module). c.args.den * x.cost < c.args.price * x.capacity) c.loop-m.m _ c.loop-m-test.true c.loop-m.invariant (λ over. false≢true (c.if-is_overpriced.ensures.1 over))

pub returns-then-is_overpriced : goal.returns-then-is_overpriced
returns-then-is_overpriced c = (
  holds_read c.args.modules.now (λ k (x : Module). c.args.den * x.cost < c.args.price * x.capacity) c.loop-m.m _ c.loop-m-test.true (c.if-is_overpriced.ensures.0 refl),
  c.loop-m.invariant,
)

pub returns : goal.returns
returns c = none_at_all c.args.modules.now (λ k (x : Module). c.args.den * x.cost < c.args.price * x.capacity) c.loop-m.m c.loop-m-test.false c.loop-m.invariant
