use Rattle.std.proofs.Common.{ℕ, ◌<◌, ◌^◌}
use Rattle.master_bound.specs.Narrow.{length_entry}
use Rattle.master_bound.proofs.numbers.has_wide_entry.Given as goal

-- the entries so far are narrow
abbrev pub invariant-loop-e : goal.invariant-loop-e
invariant-loop-e l = (k : ℕ) → k < l.e → length_entry l.pairs l.lengths k < 2 ^ 62
