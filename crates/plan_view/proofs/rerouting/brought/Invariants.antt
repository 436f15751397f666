use Rattle.std.proofs.Common.{◌≡◌, take}
use Rattle.plan_view.specs.Reroutes.{brought}
use Rattle.plan_view.proofs.rerouting.brought.Given as goal

-- what the flows so far bring
abbrev pub invariant-loop-g : goal.invariant-loop-g
invariant-loop-g l = l.sum ≡ brought (take l.g-index l.flows) l.f
