use Rattle.std.proofs.Common.{◌≡◌, ◌≤◌, ◌*◌, ◌^◌, take}
use Rattle.plan_terms.specs.Terms.{length_of}
use Rattle.short_paths.proofs.priced_paths.total_of.Given as goal

abbrev pub invariant-loop-e : goal.invariant-loop-e
invariant-loop-e l = (l.total ≡ length_of l.prices (take l.e-index l.path)) × (l.total ≤ l.e-index * 2 ^ 64)
