use Rattle.std.proofs.Common.{◌≡◌, map}
use Rattle.net_core.proofs.Library.{range_with_len}
use Rattle.sample_net.specs.Samples.{ring_ends}
use Rattle.sample_net.proofs.ends.ring.Given as goal

-- the links of the nodes below i
abbrev pub invariant-loop-i : goal.invariant-loop-i
invariant-loop-i l = l.ends ≡ map (ring_ends l.n) (range_with_len 0 l.i)
