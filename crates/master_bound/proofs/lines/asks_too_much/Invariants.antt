use Rattle.std.proofs.Common.{◌≡◌, ◌<◌, ◌^◌, take}
use Rattle.plan_terms.specs.Terms.{asked}
use Rattle.master_bound.specs.Answers.{lines_of}
use Rattle.master_bound.proofs.lines.asks_too_much.Given as goal

-- what the multipliers so far ask for, which isn't too much
abbrev pub invariant-loop-multiplier : goal.invariant-loop-multiplier
invariant-loop-multiplier l = (l.asked ≡ asked (lines_of l.cuts (take l.multiplier-index l.multipliers))) × (l.asked < 2 ^ 126)
