use Rattle.std.proofs.Common.{◌≡◌, ◌*◌, map, take}
use Rattle.flow_mending.proofs.loads.rooms.Given as goal

-- the numbers so far, times the denominator
abbrev pub invariant-loop-n : goal.invariant-loop-n
invariant-loop-n l = l.rooms ≡ map (λ n. n * l.den) (take l.n-index l.nums)
