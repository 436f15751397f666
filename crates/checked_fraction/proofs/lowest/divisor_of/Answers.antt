use Rattle.std.proofs.Common.{◌≡◌, length, arith, sym, subst}
use Rattle.checked_fraction.{specs.Rows.num, specs.inner.Passes.IsRowGcd, proofs.Divisors.{row_gcd_none, row_gcd_one, row_gcd_more}}
use Rattle.checked_fraction.proofs.lowest.divisor_of.Goals as goal

pub loop-k-init : goal.loop-k-init
loop-k-init c = subst (λ g. IsRowGcd (num c.args.raw.now) 0 c.args.whole g) (sym c.new-common.ensures) (row_gcd_none (num c.args.raw.now) c.args.whole)

pub returns-then-common-eq1 : goal.returns-then-common-eq1
returns-then-common-eq1 c =
    let g = c.loop-k.common.value in
    let one : g ≡ 1 = omega (arith, c.if-common-eq1.true) in
    let row = row_gcd_one (num c.args.raw.now) _ (length c.args.raw.now) _ g (omega (arith, c.loop-k-test.true)) one c.loop-k.invariant in
    record { gcd = subst (λ x. IsRowGcd (num c.args.raw.now) (length c.args.raw.now) c.args.whole x) (sym one) row }

pub loop-k-preserved : goal.loop-k-preserved
loop-k-preserved c = row_gcd_more (num c.args.raw.now) _ _ _ _ _ c.loop-k.invariant c.size_of.ensures c.joined-common.ensures
