use Rattle.std.proofs.Common.{◌≡◌, ℕ, ◌*◌, ◌^◌, ◌<◌, ◌≤◌, get_or, length, take}
use Rattle.module_choice.specs.inner.Routes.{weight}
use Rattle.module_choice.proofs.loads.add_flows.Given as goal

-- the flows so far have been added
abbrev pub invariant-loop-i : goal.invariant-loop-i
invariant-loop-i l = (e : ℕ) → e < length l.loads → (get_or l.loads e 0 ≡ weight (take l.i l.flows) e) × (get_or l.loads e 0 ≤ l.i * 2 ^ 48)
