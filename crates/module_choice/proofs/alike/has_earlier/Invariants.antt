use Rattle.std.proofs.Common.{◌≡◌, ◌≢◌, ◌<◌, ℕ, Some, slice_get}
use Rattle.plan_terms.specs.Terms.{Link}
use Rattle.module_choice.proofs.alike.has_earlier.Given as goal

-- none of the links so far has the modules
abbrev pub invariant-loop-e : goal.invariant-loop-e
invariant-loop-e l = (i : ℕ) (k m : Link) → i < l.e → slice_get l.links i ≡ Some k → slice_get l.links l.at ≡ Some m → k.modules ≢ m.modules
