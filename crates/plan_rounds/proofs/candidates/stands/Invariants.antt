use Rattle.std.proofs.Common.{take}
use Rattle.plan_law.specs.WorkedLists.{Lacks}
use Rattle.plan_rounds.proofs.candidates.stands.Given as goal

-- none so far is the cut
abbrev pub invariant-loop-l : goal.invariant-loop-l
invariant-loop-l l = Lacks (take l.l-index l.lines) l.line
