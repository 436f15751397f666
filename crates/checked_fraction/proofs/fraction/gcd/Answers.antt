use Rattle.net_core.proofs.Library.{IsGcd-from_mod, IsGcd-from_zero}
use Rattle.checked_fraction.proofs.fraction.gcd.Goals as goal

pub loop-y-preserved : goal.loop-y-preserved
loop-y-preserved c = λ g h. c.loop-y.invariant g (IsGcd-from_mod _ _ _ h)

pub returns : goal.returns
returns c = c.loop-y.invariant _ (IsGcd-from_zero _ _ c.loop-y-test.false)
