-- the nodes of a set that is kept as bits
use Rattle.std.specs.Prelude.{ℕ, Bool, ◌/◌, ◌%◌, ◌^◌, ◌==◌}
use Rattle.node_sets.specs.declared.node_set.NodeSet.{NodeSet}

-- node k is in the set
abbrev pub is_in : NodeSet → ℕ → Bool
is_in set k = set.bits / 2 ^ k % 2 == 1
