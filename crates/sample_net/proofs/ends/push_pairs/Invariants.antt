use Rattle.std.proofs.Common.{◌≡◌, ◌≤◌, ◌+◌, ◌-◌, ◌++◌, map}
use Rattle.net_core.proofs.Library.{range_with_len}
use Rattle.sample_net.proofs.ends.push_pairs.Given as goal

-- the pairs with the nodes below j
abbrev pub invariant-loop-j : goal.invariant-loop-j
invariant-loop-j l = (l.fn.i + 1 ≤ l.j) × (l.pairs ≡ l.fn.pairs ++ map (λ j. (l.fn.i, j)) (range_with_len (l.fn.i + 1) (l.j - (l.fn.i + 1))))
