use Rattle.std.proofs.Common.{ℕ, ◌+◌, ◌≤◌, if◌then◌else◌, slice_index, take}
use Rattle.plan_terms.specs.Terms.{names_link}
use Rattle.flow_mending.proofs.loads.take_path.Given as goal

-- each link of the path so far gave the amount
abbrev pub invariant-loop-x : goal.invariant-loop-x
invariant-loop-x l = (e : ℕ) → slice_index l.room e + (if names_link e (take l.x-index l.path) then l.num else 0) ≤ slice_index l.fn.room e
