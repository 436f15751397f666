use Rattle.std.proofs.Common.{◌<◌, length}
use Rattle.module_choice.proofs.Choices.{IsBestSoFar}
use Rattle.module_choice.proofs.covers.best_kind.Given as goal

-- the best of the kinds so far
abbrev pub invariant-loop-at : goal.invariant-loop-at
invariant-loop-at l = (l.best.at < length l.modules) × IsBestSoFar l.modules l.at l.need l.best
