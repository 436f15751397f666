use Rattle.std.proofs.Common.{map, take}
use Rattle.report_comments.specs.Comments.{AddsLines}
use Rattle.plan_reports.specs.BlockLines.{block_items}
use Rattle.plan_reports.proofs.comments.put_blocks.Given as goal

abbrev pub invariant-loop-block : goal.invariant-loop-block
invariant-loop-block l = AddsLines l.fn.text (map (block_items l.links l.demands) (take l.block-index l.blocks)) l.text
