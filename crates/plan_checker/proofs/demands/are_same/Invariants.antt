use Rattle.std.proofs.Common.{◌≡◌, take}
use Rattle.plan_checker.proofs.demands.are_same.Given as goal

-- the demands so far are equal
abbrev pub invariant-loop-k : goal.invariant-loop-k
invariant-loop-k l = take l.k l.a ≡ take l.k l.b
