use Rattle.plan_terms.specs.Terms.{case_of}
use Rattle.tree_check.specs.inner.Walking.{HasWalked}
use Rattle.tree_check.proofs.walk.take_all.Given as goal

-- the nodes so far
abbrev pub invariant-loop-i : goal.invariant-loop-i
invariant-loop-i l = HasWalked (case_of l.tests.instance.now) l.proof l.i l.left.items l.found
