use Rattle.std.proofs.Common.{◌≡◌, take}
use Rattle.net_core.proofs.list.List.from_slice.Given as goal

-- the copies so far are the items so far
abbrev pub invariant-loop-item : goal.invariant-loop-item
invariant-loop-item g l = l.all ≡ take l.item-index l.items
