use Rattle.std.proofs.Common.{◌≡◌, take}
use Rattle.trim_plan.specs.Dearest.{priced_links}
use Rattle.trim_plan.proofs.dearest.dearest_first.Given as goal

-- the modules of the links so far
abbrev pub invariant-loop-e : goal.invariant-loop-e
invariant-loop-e l = l.priced ≡ priced_links 0 (take l.e l.net.links)
