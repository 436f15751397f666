use Rattle.std.proofs.Common.{◌≡◌, ℕ, ◌<◌, get_or}
use Rattle.tree_boxes.proofs.known.index_of.Given as goal

-- the cut isn't at an earlier place
abbrev pub invariant-loop-i : goal.invariant-loop-i
invariant-loop-i l = (k : ℕ) → k < l.i → get_or l.cuts k l.cut ≡ l.cut → ⊥
