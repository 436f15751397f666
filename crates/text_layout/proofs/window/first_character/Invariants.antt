use Rattle.std.proofs.Common.{◌≡◌, ◌≤◌, ◌<◌, ℕ, false, slice_index}
use Rattle.text_layout.specs.Places.{begins_character}
use Rattle.text_layout.proofs.window.first_character.Given as goal

-- no character begins so far
abbrev pub invariant-loop-i : goal.invariant-loop-i
invariant-loop-i l = (k : ℕ) → l.least ≤ k → k < l.i → begins_character (slice_index l.text k) ≡ false
