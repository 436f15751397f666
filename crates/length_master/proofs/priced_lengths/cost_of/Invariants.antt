use Rattle.std.proofs.Common.{◌≡◌, pos}
use Rattle.checked_fraction.specs.Terms.{num}
use Rattle.simplex_law.specs.Terms.{dot}
use Rattle.master_bound.specs.Narrow.{length_entry}
use Rattle.length_master.proofs.priced_lengths.cost_of.Given as goal

-- the sum so far
abbrev pub invariant-loop-e : goal.invariant-loop-e
invariant-loop-e l = l.sum ≡ dot l.e (num l.nums) (λ k. pos (length_entry l.pairs l.lengths k))
