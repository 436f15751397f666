use Rattle.std.proofs.Common.{ℕ}
use Rattle.net_core.proofs.Library.{IsGcd}
use Rattle.checked_fraction.proofs.fraction.gcd.Given as goal

-- the divisor of the pair so far is the one that is sought
abbrev pub invariant-loop-y : goal.invariant-loop-y
invariant-loop-y l = (g : ℕ) → IsGcd l.x l.y g → IsGcd l.fn.a l.fn.b g

abbrev pub decreases-loop-y : goal.decreases-loop-y
decreases-loop-y l = l.y
