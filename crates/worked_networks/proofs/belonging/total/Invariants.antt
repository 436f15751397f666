use Rattle.std.proofs.Common.{◌≡◌, ◌≤◌, ◌*◌, ◌^◌, sum_by, take}
use Rattle.worked_networks.proofs.belonging.total.Given as goal

-- the needs so far, each of 64 bits
abbrev pub invariant-loop-d : goal.invariant-loop-d
invariant-loop-d l = (l.total ≡ sum_by (λ d. d.need) (take l.d-index l.demands)) × (l.total ≤ l.d-index * 2 ^ 64)
