use Rattle.std.proofs.Common.{subst, sym}
use Rattle.simplex_core.specs.Terms.{IsLeastMultiple}
use Rattle.key_rows.proofs.Weighing.{multiple_of_one}
use Rattle.key_rows.proofs.weights.joined_common.Goals as goal

pub returns-then-den-eq1 : goal.returns-then-den-eq1
returns-then-den-eq1 c = subst (λ x. IsLeastMultiple c.args.all x c.args.all) (sym c.if-den-eq1.true) (multiple_of_one c.args.all c.requires.all.0 c.requires.all.1)
