use Rattle.std.proofs.Common.{◌≡◌, ◌<◌, ℕ, [], get_or, length}
use Rattle.tree_boxes.specs.inner.Lowering.{IsLoweredLink, modules_at}
use Rattle.tree_boxes.proofs.lowered_counts.lowered_counts.Given as goal

-- the counts of the first links are lowered
abbrev pub invariant-loop-e : goal.invariant-loop-e
invariant-loop-e l = record {
  count : length l.lowered ≡ l.e;
  each : (k : ℕ) → k < l.e → IsLoweredLink (modules_at l.links k) (get_or l.lists k []) (get_or l.lowered k []);
}
