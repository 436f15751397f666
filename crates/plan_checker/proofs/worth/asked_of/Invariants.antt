use Rattle.std.proofs.Common.{◌≡◌, ◌-◌, ◌^◌, min, take}
use Rattle.plan_terms.specs.Terms.{asked}
use Rattle.plan_checker.specs.inner.Lines.{certified}
use Rattle.plan_checker.proofs.worth.asked_of.Given as goal

-- what the cuts so far ask for
abbrev pub invariant-loop-l : goal.invariant-loop-l
invariant-loop-l l = l.sum ≡ min (asked (certified (take l.l-index l.lines))) (2 ^ 128 - 1)
