use Rattle.std.proofs.Common.{◌≡◌, ◌++◌, drop, map, take}
use Rattle.net_core.specs.Settled.{without_setup}
use Rattle.net_core.proofs.network.drop_setups.Given as goal

-- the links so far have no setup cost
abbrev pub invariant-loop-e : goal.invariant-loop-e
invariant-loop-e l = l.links ≡ map without_setup (take l.e l.fn.links) ++ drop l.e l.fn.links
