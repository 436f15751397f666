use Rattle.std.proofs.Common.{◌/◌}
use Rattle.net_core.proofs.Library.{dvd-mul_left, positive_divisor}
use Rattle.simplex_core.proofs.Multiples.{multiple_some, multiple_first, multiple_least}
use Rattle.simplex_core.proofs.optimum.multiple.Goals as goal

pub returns-clause-some : goal.returns-clause-some
returns-clause-some c = multiple_some c.args.a c.args.b c.gcd.result c.requires.a.0 c.requires.b.0 c.gcd.ensures

pub returns-clause-first : goal.returns-clause-first
returns-clause-first c = multiple_first c.args.a c.args.b c.gcd.result c.gcd.ensures

pub returns-clause-least : goal.returns-clause-least
returns-clause-least c = λ multiple first second. multiple_least c.args.a c.args.b c.gcd.result multiple c.requires.a.0 c.gcd.ensures first second

pub returns-clause-second : goal.returns-clause-second
returns-clause-second c = dvd-mul_left c.args.b (c.args.a / c.gcd.result)

pub nonzero_div-result : goal.nonzero_div-result
nonzero_div-result c = positive_divisor c.gcd.result c.args.a c.requires.a.0 c.gcd.ensures.0
