use Rattle.std.proofs.Common.{◌≡◌, ◌≤◌, ◌-◌, length}
use Rattle.report_parts.specs.Readers.{reader_demands, reader_names}
use Rattle.tree_reader.{specs.CommentTexts.comments_from, specs.ReadingTrees.{lines_at, tree_at}}
use Rattle.tree_reader.proofs.reader.tree.Given as goal

-- what is left gives the whole tree
abbrev pub invariant-loop-sofar : goal.invariant-loop-sofar
invariant-loop-sofar l = record {
  within : l.at ≤ length l.bytes;
  same : lines_at (reader_names l.reader) (reader_demands l.reader) l.sofar (comments_from l.at l.bytes) ≡ tree_at (reader_names l.reader) (reader_demands l.reader) l.from l.bytes;
}

abbrev pub decreases-loop-sofar : goal.decreases-loop-sofar
decreases-loop-sofar l = length l.bytes - l.at
