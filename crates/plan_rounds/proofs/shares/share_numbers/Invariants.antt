use Rattle.std.proofs.Common.{◌≡◌, take}
use Rattle.master_law.specs.Terms.{share_capacities}
use Rattle.plan_rounds.proofs.shares.share_numbers.Given as goal

-- the capacities so far
abbrev pub invariant-loop-e : goal.invariant-loop-e
invariant-loop-e l = l.nums ≡ take l.e (share_capacities l.links l.pairs l.share)
