use Rattle.std.proofs.Common.{◌≡◌, take}
use Rattle.plan_view.specs.inner.Lines.{given_among}
use Rattle.plan_view.proofs.parts.given_among.Given as goal

-- what is given along the lines so far
abbrev pub invariant-loop-l : goal.invariant-loop-l
invariant-loop-l l = l.sum ≡ given_among l.links l.state (take l.l-index l.lines)
