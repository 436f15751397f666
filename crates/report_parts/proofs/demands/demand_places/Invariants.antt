use Rattle.std.proofs.Common.{◌≡◌, map, take}
use Rattle.report_parts.proofs.demands.demand_places.Given as goal

abbrev pub invariant-loop-demand : goal.invariant-loop-demand
invariant-loop-demand l = l.places ≡ map (λ x. x.name) (take l.demand-index l.demands)
