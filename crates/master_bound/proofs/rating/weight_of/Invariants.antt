use Rattle.std.proofs.Common.{◌≤◌, ◌*◌, ◌^◌}
use Rattle.master_bound.proofs.rating.weight_of.Given as goal

-- the sum so far fits
abbrev pub invariant-loop-e : goal.invariant-loop-e
invariant-loop-e l = l.weight ≤ l.e * 2 ^ 100
