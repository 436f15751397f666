use Rattle.std.proofs.Common.{◌≡◌, replicate}
use Rattle.net_core.proofs.list.List.filled.Given as goal

-- the copies so far
abbrev pub invariant-loop : goal.invariant-loop
invariant-loop g l = l.all ≡ replicate l.counter l.item
