use Rattle.std.proofs.Common.{◌≡◌, [], take, drop}
use Rattle.net_core.{specs.Tests.first_fault, specs.Network.links_tests}
use Rattle.net_core.proofs.network.first_link_fault.Given as goal

-- the links so far have passed their tests
abbrev pub invariant-loop-i : goal.invariant-loop-i
invariant-loop-i l = first_fault (links_tests l.nodes (take l.i l.links) (drop l.i l.links)) ≡ first_fault (links_tests l.nodes [] l.links)
