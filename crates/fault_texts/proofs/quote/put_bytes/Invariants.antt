use Rattle.std.proofs.Common.{◌≡◌, ◌++◌}
use Rattle.fault_texts.specs.Quotes.{quoted_below}
use Rattle.fault_texts.proofs.quote.put_bytes.Given as goal

-- the bytes so far
abbrev pub invariant-loop-i : goal.invariant-loop-i
invariant-loop-i l = l.text ≡ l.fn.text ++ quoted_below l.i l.utf8 l.word
