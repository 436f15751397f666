use Rattle.module_choice.proofs.LeastCosts.{IsNextSoFar}
use Rattle.module_choice.proofs.tables.next_entry.Given as goal

-- the best of the kinds so far
abbrev pub invariant-loop-kind : goal.invariant-loop-kind
invariant-loop-kind l = IsNextSoFar l.modules l.entries l.kind l.best
