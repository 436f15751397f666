use Rattle.line_check.{specs.Testing.weighed, specs.inner.Dividing.AreDividedCoefs}
use Rattle.line_check.proofs.divided_line.all_coefs.Given as goal

-- the coefficients so far
abbrev pub invariant-loop-e : goal.invariant-loop-e
invariant-loop-e l = AreDividedCoefs l.links (weighed l.tested l.terms) l.need l.divisor l.e l.coefs
