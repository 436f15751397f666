use Rattle.std.proofs.Common.{subst, length}
use Rattle.simplex_core.{specs.inner.Commons.fraction_den, specs.Multiples.{IsLeastMultiple, HaveNoMultiple}, proofs.Multiples.{denominator_first, denominator_next, denominator_none}}
use Rattle.simplex_core.proofs.optimum.common_denominator.Goals as goal

pub loop-i-init : goal.loop-i-init
loop-i-init c = denominator_first (fraction_den c.args.fractions.now)

pub loop-i-preserved : goal.loop-i-preserved
loop-i-preserved c = denominator_next (fraction_den c.args.fractions.now) c.loop-i.i c.loop-i.all c.in-Some.next c.loop-i.invariant
    (subst (λ x. IsLeastMultiple c.loop-i.all x c.in-Some.next) c.den_at.ensures.value c.in-Some.ensures)

pub returns-in_default : goal.returns-in_default
returns-in_default c = denominator_none (fraction_den c.args.fractions.now) c.loop-i.i (length c.args.fractions.now) c.loop-i.all c.loop-i-test.true c.loop-i.invariant
    (subst (λ x. HaveNoMultiple c.loop-i.all x) c.den_at.ensures.value c.in_default.ensures)
