use Rattle.std.proofs.Common.{◌≡◌, ◌≤◌, take}
use Rattle.text_layout.specs.Places.{characters}
use Rattle.fault_texts.proofs.quote.quote_end.Given as goal

-- the characters of the bytes so far, which are all shown
abbrev pub invariant-loop-i : goal.invariant-loop-i
invariant-loop-i l = (l.count ≡ characters (take l.i l.word)) × (l.count ≤ 40)
