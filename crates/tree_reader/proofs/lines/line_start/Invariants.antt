use Rattle.std.proofs.Common.{◌≡◌, ◌≤◌, ◌-◌, length}
use Rattle.tree_reader.specs.CommentTexts.{comments_from}
use Rattle.tree_reader.proofs.lines.line_start.Given as goal

-- no comment begins before this place
abbrev pub invariant-loop-at : goal.invariant-loop-at
invariant-loop-at l = record { after : l.from ≤ l.at; within : l.at ≤ length l.bytes; same : comments_from l.from l.bytes ≡ comments_from l.at l.bytes }

abbrev pub decreases-loop-at : goal.decreases-loop-at
decreases-loop-at l = length l.bytes - l.at
