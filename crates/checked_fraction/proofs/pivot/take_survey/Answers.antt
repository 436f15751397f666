use Rattle.std.{proofs.Common.{sym, subst, arith}, proofs.lemmas.Nat.Gcd.le_of_dvd}
use Rattle.checked_fraction.{specs.inner.Passes.{raw, IsRowGcd}, proofs.Divisors.{row_gcd_none, row_gcd_more, sizes_more}}
use Rattle.checked_fraction.proofs.pivot.take_survey.Goals as goal

pub loop-k-init : goal.loop-k-init
loop-k-init c =
    let f = raw c.args.nums.now c.args.pivot.now c.args.mix.now in record {
      common = subst (λ g. IsRowGcd f 0 c.args.whole g) (sym c.new-common.ensures) (row_gcd_none f c.args.whole);
      top = λ k lt. absurd (omega arith);
    }

pub loop-k-preserved : goal.loop-k-preserved
loop-k-preserved c =
    let f = raw c.args.nums.now c.args.pivot.now c.args.mix.now in record {
      common = row_gcd_more f _ _ _ _ _ c.loop-k.invariant.common c.size_at-size.ensures c.joined-common.ensures;
      top = sizes_more f c.loop-k.k c.loop-k.top _ c.loop-k.invariant.top c.larger-top.ensures.first (omega (arith, c.size_at-size.ensures, c.larger-top.ensures.second));
    }

pub returns-clause-low : goal.returns-clause-low
returns-clause-low c = le_of_dvd c.requires.some c.loop-k.invariant.common.of_whole
