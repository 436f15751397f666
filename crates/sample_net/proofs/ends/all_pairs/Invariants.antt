use Rattle.std.proofs.Common.{◌≡◌, flat_map}
use Rattle.net_core.proofs.Library.{range_with_len}
use Rattle.sample_net.specs.Samples.{pairs_of}
use Rattle.sample_net.proofs.ends.all_pairs.Given as goal

-- the pairs of the nodes below i
abbrev pub invariant-loop-i : goal.invariant-loop-i
invariant-loop-i l = l.pairs ≡ flat_map (pairs_of l.n) (range_with_len 0 l.i)
