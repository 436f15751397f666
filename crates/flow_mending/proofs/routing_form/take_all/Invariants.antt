use Rattle.std.proofs.Common.{◌≡◌, ℕ, ◌+◌, slice_index, take}
use Rattle.plan_terms.specs.Terms.{sent}
use Rattle.flow_mending.proofs.routing_form.take_all.Given as goal

-- the flows so far took their amounts
abbrev pub invariant-loop-f : goal.invariant-loop-f
invariant-loop-f l = (k : ℕ) → slice_index l.needs k + sent (take l.f-index l.flows) k ≡ slice_index l.fn.needs k
