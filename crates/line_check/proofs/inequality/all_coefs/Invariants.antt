use Rattle.std.proofs.Common.{◌≡◌, take}
use Rattle.line_check.specs.Inequalities.{coefficients_of}
use Rattle.line_check.proofs.inequality.all_coefs.Given as goal

-- the coefficients of the links so far
abbrev pub invariant-loop-e : goal.invariant-loop-e
invariant-loop-e l = l.coefs ≡ coefficients_of (take l.e l.lengths) (take l.e l.links)
