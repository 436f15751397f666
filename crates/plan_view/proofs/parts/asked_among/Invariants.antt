use Rattle.std.proofs.Common.{◌≡◌, take}
use Rattle.plan_view.specs.inner.Lines.{asked_among}
use Rattle.plan_view.proofs.parts.asked_among.Given as goal

-- what the lines so far ask for
abbrev pub invariant-loop-l : goal.invariant-loop-l
invariant-loop-l l = l.sum ≡ asked_among l.state (take l.l-index l.lines)
