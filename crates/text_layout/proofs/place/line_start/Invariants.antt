use Rattle.text_layout.specs.Places.{IsLineStart}
use Rattle.text_layout.proofs.place.line_start.Given as goal

-- the first byte of the line of the byte that comes next
abbrev pub invariant-loop-i : goal.invariant-loop-i
invariant-loop-i l = IsLineStart l.text l.i l.start
