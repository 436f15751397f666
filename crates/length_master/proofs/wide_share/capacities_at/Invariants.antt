use Rattle.std.{proofs.Common.{◌≡◌, map}, specs.List.range_with_len}
use Rattle.length_master.specs.inner.Capacities.{given_at}
use Rattle.length_master.proofs.wide_share.capacities_at.Given as goal

abbrev pub invariant-loop-e : goal.invariant-loop-e
invariant-loop-e l = l.nums ≡ map (given_at l.links l.pairs l.prices) (range_with_len 0 l.e)
