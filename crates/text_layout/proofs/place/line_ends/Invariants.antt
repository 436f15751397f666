use Rattle.std.proofs.Common.{◌≡◌, ◌≤◌}
use Rattle.text_layout.specs.Places.{line_ends}
use Rattle.text_layout.proofs.place.line_ends.Given as goal

-- the line ends so far
abbrev pub invariant-loop-i : goal.invariant-loop-i
invariant-loop-i l = (l.count ≡ line_ends l.text l.i) × (l.count ≤ l.i)
