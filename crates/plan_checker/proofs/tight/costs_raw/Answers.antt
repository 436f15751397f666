use Rattle.std.proofs.Common.{IsTrue, subst, sym}
use Rattle.plan_checker.proofs.Worths.{equal_index, index_equal}
use Rattle.plan_checker.proofs.tight.costs_raw.Goals as goal

pub returns : goal.returns
returns c = (
  λ t. index_equal c.cmp.result _ _ c.cmp.ensures (subst IsTrue c.eq.ensures t),
  λ same. subst IsTrue (sym c.eq.ensures) (equal_index c.cmp.result _ _ c.cmp.ensures same),
)
