use Rattle.std.proofs.Common.{length, map, take, zip}
use Rattle.net_core.proofs.Library.{range_with_len}
use Rattle.report_comments.specs.Comments.{AddsLines}
use Rattle.tree_lines.specs.TreeLines.{box_cut_items}
use Rattle.tree_lines.proofs.cuts.put_cuts.Given as goal

abbrev pub invariant-loop-i : goal.invariant-loop-i
invariant-loop-i l = AddsLines l.fn.text (map box_cut_items (take l.i (zip (range_with_len 0 (length l.cuts)) l.cuts))) l.text
