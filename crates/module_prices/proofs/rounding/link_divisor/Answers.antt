use Rattle.std.proofs.Common.{List, ◌<◌, arith, map, length, subst, ap, sym, ◌∙◌}
use Rattle.plan_terms.specs.Terms.{Module, IsGreatestDivisor}
use Rattle.module_prices.proofs.Divisors.{link_divisor_none, link_divisor_whole}
use Rattle.module_prices.proofs.rounding.link_divisor.Goals as goal

pub returns-then-modules-eq0 : goal.returns-then-modules-eq0
returns-then-modules-eq0 c = link_divisor_none c.args.l.now.setup c.args.l.now.modules (ap length (sym c.items-modules.ensures) ∙ c.if-modules-eq0.true)

pub returns : goal.returns
returns c =
    let costs = subst (λ ms. IsGreatestDivisor (map (λ (m : Module). m.cost) ms) c.modules_divisor.result) c.items-modules.ensures c.modules_divisor.ensures in
    let some = subst (λ (ms : List Module). 0 < length ms) c.items-modules.ensures (omega (arith, c.if-modules-eq0.false)) in
    link_divisor_whole c.args.l.now.setup c.args.l.now.modules c.modules_divisor.result c.common_divisor.result some costs c.common_divisor.ensures
