use Rattle.std.proofs.Common.{◌≡◌, ◌≤◌, ◌*◌, ◌^◌, sum_by, take, zip}
use Rattle.master_bound.proofs.share.cost_of.Given as goal

-- the sum over the links so far
abbrev pub invariant-loop-e : goal.invariant-loop-e
invariant-loop-e l = (l.cost ≡ sum_by (λ p. p.0.cost * p.1) (zip (take l.e l.pairs) (take l.e l.units))) × (l.cost ≤ l.e * 2 ^ 104)
