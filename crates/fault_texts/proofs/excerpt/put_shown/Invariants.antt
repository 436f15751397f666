use Rattle.std.proofs.Common.{◌≡◌, ◌++◌}
use Rattle.fault_texts.specs.Controls.{shown_below}
use Rattle.fault_texts.proofs.excerpt.put_shown.Given as goal

-- the bytes so far
abbrev pub invariant-loop-i : goal.invariant-loop-i
invariant-loop-i l = l.text ≡ l.fn.text ++ shown_below l.i l.bytes
