use Rattle.std.proofs.Common.{◌≡◌, ◌-◌, ◌^◌, min, take}
use Rattle.plan_terms.specs.Terms.{given}
use Rattle.plan_checker.specs.inner.Lines.{certified}
use Rattle.plan_checker.proofs.worth.given_of.Given as goal

-- what is given along the cuts so far
abbrev pub invariant-loop-l : goal.invariant-loop-l
invariant-loop-l l = l.sum ≡ min (given l.links (certified (take l.l-index l.lines))) (2 ^ 128 - 1)
