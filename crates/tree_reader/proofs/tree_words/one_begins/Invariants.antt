use Rattle.std.proofs.Common.{◌≡◌, ◌≤◌, ◌-◌, length}
use Rattle.tree_reader.{specs.CommentTexts.comments_from, specs.TreeWords.has_tree_line}
use Rattle.tree_reader.proofs.tree_words.one_begins.Given as goal

-- the comments so far begin otherwise
abbrev pub invariant-loop-text : goal.invariant-loop-text
invariant-loop-text l = record {
  within : l.at ≤ length l.bytes;
  same : has_tree_line (comments_from l.at l.bytes) ≡ has_tree_line (comments_from l.from l.bytes);
}

abbrev pub decreases-loop-text : goal.decreases-loop-text
decreases-loop-text l = length l.bytes - l.at
