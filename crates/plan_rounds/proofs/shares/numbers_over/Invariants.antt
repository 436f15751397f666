use Rattle.std.proofs.Common.{◌≡◌, ◌*◌, map, take}
use Rattle.plan_rounds.proofs.shares.numbers_over.Given as goal

-- the numbers so far
abbrev pub invariant-loop-n : goal.invariant-loop-n
invariant-loop-n l = map (λ n. l.divisor * n) l.divided ≡ take l.n-index l.nums
