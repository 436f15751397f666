use Rattle.std.proofs.Common.{◌≡◌, length}
use Rattle.worked_networks.specs.Tables.{letters}
use Rattle.worked_networks.proofs.link_rows.nodes_of.Given as goal

-- the nodes so far
abbrev pub invariant-loop-n : goal.invariant-loop-n
invariant-loop-n l = (length l.nodes ≡ l.n) × (l.nodes ≡ letters 65 l.n)
