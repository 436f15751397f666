use Rattle.std.proofs.Common.{◌≡◌, ◌+◌, drop}
use Rattle.snd_tokens.specs.Terms.{line_length}
use Rattle.tree_reader.proofs.lines.line_end.Given as goal

-- no byte before this place ends the line
abbrev pub invariant-loop-at : goal.invariant-loop-at
invariant-loop-at l = l.from + line_length (drop l.from l.bytes) ≡ l.at + line_length (drop l.at l.bytes)
