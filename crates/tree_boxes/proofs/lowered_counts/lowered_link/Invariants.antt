use Rattle.std.proofs.Common.{◌≡◌, ◌^◌, ◌<◌, length, take}
use Rattle.tree_boxes.proofs.Lowering.{IsLoweredTo}
use Rattle.tree_boxes.proofs.lowered_counts.lowered_link.Given as goal

-- the counts of the first modules are lowered, and what room is missing
abbrev pub invariant-loop-m : goal.invariant-loop-m
invariant-loop-m l = record {
  lowered : IsLoweredTo (take l.m l.modules) (take l.m l.counts) l.lowered l.missing;
  count : length l.lowered ≡ l.m;
  missing : l.missing < 2 ^ 44;
}
