use Rattle.std.proofs.Common.{IfSome}
use Rattle.line_maker.specs.inner.Divisors.{IsLineDivisor}
use Rattle.line_maker.proofs.coarse.coarse_divisor.Given as goal

-- the divisor so far
abbrev pub invariant-loop-divisor : goal.invariant-loop-divisor
invariant-loop-divisor l = IfSome l.found IsLineDivisor
