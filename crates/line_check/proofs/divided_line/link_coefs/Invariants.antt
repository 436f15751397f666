use Rattle.line_check.{specs.Testing.weighed, specs.inner.Dividing.AreLinkCoefs}
use Rattle.line_check.proofs.divided_line.link_coefs.Given as goal

-- the coefficients so far
abbrev pub invariant-loop-m : goal.invariant-loop-m
invariant-loop-m l = AreLinkCoefs (weighed l.tested l.terms) l.need l.divisor l.e l.m l.coefs
