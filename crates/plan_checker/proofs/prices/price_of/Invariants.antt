use Rattle.std.proofs.Common.{◌≡◌, ◌*◌, ◌^◌, ◌≤◌, take}
use Rattle.plan_terms.specs.Terms.{price}
use Rattle.plan_checker.specs.inner.Lines.{certified}
use Rattle.plan_checker.proofs.prices.price_of.Given as goal

-- the price of the lines so far
abbrev pub invariant-loop-l : goal.invariant-loop-l
invariant-loop-l l = (l.sum ≡ price (certified (take l.l-index l.lines)) l.link) × (l.sum ≤ l.l-index * 2 ^ 94)
