use Rattle.std.proofs.Common.{◌*◌, ◌<◌, ◌≤◌, arith, mul-pos, refl, subst, sym}
use Rattle.module_prices.proofs.UnitCosts.{few_sixteenths}
use Rattle.module_prices.proofs.lengths.sixteenths.Goals as goal

few : (c : goal.After-mul_div) → c.mul_div.result ≤ 16
few c =
    let dear = c.args.dearest.now in
    let m = c.args.m.now in
    let some : 0 < m.capacity * dear.cost = mul-pos c.requires.sound.carries (omega (arith, c.if-dearest-eq0.false)) in
    let less : m.cost * dear.capacity ≤ m.capacity * dear.cost = omega (arith, c.requires.less) in
    subst (λ n. n ≤ 16) (sym c.mul_div.ensures) (few_sixteenths m.cost dear.capacity (m.capacity * dear.cost) (m.capacity * dear.cost) some less refl)

pub overflow_cast-result : goal.overflow_cast-result
overflow_cast-result c = omega (arith, few c)

pub returns-clause-small : goal.returns-clause-small
returns-clause-small c = few c
