use Rattle.net_core.proofs.Library.{IsGcd-from_mod, IsGcd-from_zero}
use Rattle.checked_fraction.proofs.fraction.word_gcd.Goals as goal

pub loop-smaller-preserved : goal.loop-smaller-preserved
loop-smaller-preserved c = λ g h. c.loop-smaller.invariant g (IsGcd-from_mod _ _ _ h)

pub returns : goal.returns
returns c = c.loop-smaller.invariant _ (IsGcd-from_zero _ _ c.loop-smaller-test.false)
