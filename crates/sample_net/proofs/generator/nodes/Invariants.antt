use Rattle.std.proofs.Common.{◌≡◌}
use Rattle.sample_net.specs.Samples.{sample_nodes}
use Rattle.sample_net.proofs.generator.nodes.Given as goal

-- the nodes so far
abbrev pub invariant-loop-i : goal.invariant-loop-i
invariant-loop-i l = l.nodes ≡ sample_nodes l.i
