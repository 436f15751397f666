use Rattle.std.proofs.Common.{◌≡◌, ◌<◌, ◌≤◌, ℕ, Some, get_or, slice_get}
use Rattle.plan_terms.specs.Terms.{Link}
use Rattle.module_choice.proofs.alike.greatest_need.Given as goal

-- no need so far is greater
abbrev pub invariant-loop-e : goal.invariant-loop-e
invariant-loop-e l = record {
  reached : (i : ℕ) (k : Link) → i < l.e → slice_get l.links i ≡ Some k → k.modules ≡ l.modules → get_or l.needs i 0 ≤ l.limit → get_or l.needs i 0 ≤ l.greatest;
  limit : l.greatest ≤ l.limit;
}
