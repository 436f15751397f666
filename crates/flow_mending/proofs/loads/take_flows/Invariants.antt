use Rattle.std.proofs.Common.{ℕ, ◌+◌, ◌≤◌, slice_index, take}
use Rattle.plan_terms.specs.Terms.{load}
use Rattle.flow_mending.proofs.loads.take_flows.Given as goal

-- the flows so far took their loads
abbrev pub invariant-loop-f : goal.invariant-loop-f
invariant-loop-f l = (e : ℕ) → slice_index l.room e + load (take l.f-index l.flows) e ≤ slice_index l.fn.room e
