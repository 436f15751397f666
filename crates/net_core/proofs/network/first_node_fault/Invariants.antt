use Rattle.std.proofs.Common.{◌≡◌, [], take, drop}
use Rattle.net_core.{specs.Tests.first_fault, specs.Network.nodes_tests}
use Rattle.net_core.proofs.network.first_node_fault.Given as goal

-- the nodes so far have passed their tests
abbrev pub invariant-loop-i : goal.invariant-loop-i
invariant-loop-i l = first_fault (nodes_tests (take l.i l.nodes) (drop l.i l.nodes)) ≡ first_fault (nodes_tests [] l.nodes)
