use Rattle.std.proofs.Common.{◌≡◌, ℕ, Some, length, slice_get}
use Rattle.plan_terms.specs.Terms.{Routing, case_of}
use Rattle.plan_swaps.specs.Terms.{IsRoutingWithin}
use Rattle.tree_boxes.proofs.large.stop_anywhere.Given as goal

-- the first states have a routing within the capacities
abbrev pub invariant-loop-s : goal.invariant-loop-s
invariant-loop-s l = record {
  count : length l.routings ≡ l.s;
  each : (t : ℕ) (r : Routing) → slice_get l.routings t ≡ Some r → IsRoutingWithin (case_of l.instance) t l.caps.nums r;
}
