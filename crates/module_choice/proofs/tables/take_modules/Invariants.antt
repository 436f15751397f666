use Rattle.module_choice.proofs.LeastCosts.{AreTakenSoFar}
use Rattle.module_choice.proofs.tables.take_modules.Given as goal

-- the counts so far, with the steps that are left
abbrev pub invariant-loop-left : goal.invariant-loop-left
invariant-loop-left l = AreTakenSoFar l.modules l.entries l.steps l.left l.counts

-- how many steps are left
abbrev pub decreases-loop-left : goal.decreases-loop-left
decreases-loop-left l = l.left
