use Rattle.std.proofs.Common.{ℕ}
use Rattle.net_core.proofs.Library.{IsGcd}
use Rattle.checked_fraction.proofs.fraction.word_gcd.Given as goal

-- the divisor of the pair so far is the one that is sought
abbrev pub invariant-loop-smaller : goal.invariant-loop-smaller
invariant-loop-smaller l = (g : ℕ) → IsGcd l.larger l.smaller g → IsGcd l.fn.a l.fn.b g

abbrev pub decreases-loop-smaller : goal.decreases-loop-smaller
decreases-loop-smaller l = l.smaller
