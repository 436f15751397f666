use Rattle.std.proofs.Common.{◌≡◌, take}
use Rattle.plan_terms.specs.Terms.{raised}
use Rattle.module_choice.proofs.fallback.raised.Given as goal

-- the lengths so far
abbrev pub invariant-loop-n : goal.invariant-loop-n
invariant-loop-n l = l.lengths ≡ raised (take l.n-index l.prices)
