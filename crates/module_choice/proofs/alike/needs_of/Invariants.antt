use Rattle.std.proofs.Common.{◌≡◌, ◌-◌, ℕ, Some, length, get_or, slice_get}
use Rattle.plan_terms.specs.Terms.{Link}
use Rattle.module_choice.proofs.alike.needs_of.Given as goal

-- the needs so far
abbrev pub invariant-loop-e : goal.invariant-loop-e
invariant-loop-e l = record {
  count : length l.needs ≡ l.e;
  each : (i : ℕ) (k : Link) (n : ℕ) → slice_get l.links i ≡ Some k → slice_get l.needs i ≡ Some n → n ≡ get_or l.peaks i 0 - k.fixed;
}
