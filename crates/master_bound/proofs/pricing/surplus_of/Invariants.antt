use Rattle.std.proofs.Common.{◌≡◌, ◌<◌, pos, ◌*ℤ◌, ◌-ℤ◌}
use Rattle.master_bound.specs.inner.Gaining.{cost_below}
use Rattle.master_bound.proofs.pricing.surplus_of.Given as goal

-- what is left after the entries so far
abbrev pub invariant-loop-e : goal.invariant-loop-e
invariant-loop-e l = (0 < l.rest) × (pos l.rest ≡ l.duals.den *ℤ l.rating.gain -ℤ cost_below l.duals l.pairs l.lengths l.e)
