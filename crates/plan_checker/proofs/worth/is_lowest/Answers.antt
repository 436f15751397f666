use Rattle.std.proofs.Common.{IsTrue, subst, sym}
use Rattle.plan_checker.proofs.Worths.{lowest_by, lowest_compares}
use Rattle.plan_checker.proofs.worth.is_lowest.Goals as goal

pub returns-then-gcd-eq1 : goal.returns-then-gcd-eq1
returns-then-gcd-eq1 c = (
  λ t. lowest_by c.args.raw c.args.whole c.args.num c.args.den c.gcd.result c.cmp.result c.gcd.ensures c.if-gcd-eq1.true c.cmp.ensures (subst IsTrue c.eq.ensures t),
  λ low. subst IsTrue (sym c.eq.ensures) (lowest_compares c.args.raw c.args.whole c.args.num c.args.den c.cmp.result c.cmp.ensures low),
)
