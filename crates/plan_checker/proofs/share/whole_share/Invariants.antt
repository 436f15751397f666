use Rattle.std.proofs.Common.{◌*◌, ◌^◌, ◌<◌, ◌≤◌, All}
use Rattle.plan_checker.proofs.SharesKept.{GivesBefore}
use Rattle.plan_checker.proofs.share.whole_share.Given as goal

-- the share of the links so far
abbrev pub invariant-loop-e : goal.invariant-loop-e
invariant-loop-e l = record {
  value : GivesBefore l.links l.share l.e l.nums l.cost;
  low : All (λ n. n < 2 ^ 127) l.nums;
  small : l.cost ≤ l.e * 2 ^ 102;
}
