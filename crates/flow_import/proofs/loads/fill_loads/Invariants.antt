use Rattle.std.proofs.Common.{◌≡◌, ℕ, ◌+◌, ◌*◌, ◌^◌, ◌<◌, ◌≤◌, get_or, length, take}
use Rattle.flow_import.specs.Imports.{flow_load}
use Rattle.flow_import.proofs.loads.fill_loads.Given as goal

-- the sums over the flows so far
abbrev pub invariant-loop-flow : goal.invariant-loop-flow
invariant-loop-flow l = record {
  size : length l.loads ≡ length l.fn.loads;
  sums : (e : ℕ) → e < length l.loads → get_or l.loads e 0 ≡ flow_load (take l.flow-index l.flows) e;
  small : (e : ℕ) → get_or l.loads e 0 ≤ (l.flow-index + 1) * 2 ^ 64;
}
