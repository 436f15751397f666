use Rattle.std.proofs.Common.{◌≡◌, ◌≤◌, ◌<◌, ℕ, false}
use Rattle.text_layout.specs.Windows.{stops_before}
use Rattle.text_layout.proofs.window.window_end.Given as goal

-- the window goes on up to the byte that comes next
abbrev pub invariant-loop-i : goal.invariant-loop-i
invariant-loop-i l = (k : ℕ) → l.at ≤ k → k < l.i → stops_before l.text l.at k ≡ false
