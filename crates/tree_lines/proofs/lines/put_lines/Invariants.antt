use Rattle.std.proofs.Common.{length, map, take, zip}
use Rattle.net_core.proofs.Library.{range_with_len}
use Rattle.report_comments.specs.Comments.{AddsLines}
use Rattle.tree_lines.specs.TreeLines.{line_items}
use Rattle.tree_lines.proofs.lines.put_lines.Given as goal

abbrev pub invariant-loop-i : goal.invariant-loop-i
invariant-loop-i l = AddsLines l.fn.text (map line_items (take l.i (zip (range_with_len l.first (length l.lines)) l.lines))) l.text
