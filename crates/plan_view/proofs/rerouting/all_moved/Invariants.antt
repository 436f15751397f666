use Rattle.std.proofs.Common.{◌≡◌, ◌+◌, ◌*◌, ◌^◌, ◌≤◌, drop}
use Rattle.plan_view.specs.Reroutes.{rerouted}
use Rattle.plan_view.proofs.rerouting.all_moved.Given as goal

-- the flows so far have been counted, and those left have not
abbrev pub invariant-loop-i : goal.invariant-loop-i
invariant-loop-i l = record {
  value : l.sums.now * l.normal.den + rerouted l.normal l.routing (drop l.i l.flows) ≡ l.sums.before * l.routing.den + rerouted l.normal l.routing l.flows;
  now : l.sums.now ≤ l.i * 2 ^ 102;
  before : l.sums.before ≤ l.i * 2 ^ 102;
}
