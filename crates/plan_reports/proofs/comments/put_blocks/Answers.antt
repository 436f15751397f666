use Rattle.std.proofs.Common.{arith}
use Rattle.report_comments.proofs.Lines.{line_next, lines_all, no_lines}
use Rattle.plan_reports.specs.BlockLines.{block_items}
use Rattle.plan_reports.proofs.comments.put_blocks.Goals as goal

pub loop-block-init : goal.loop-block-init
loop-block-init c = no_lines c.args.text.now

pub loop-block-preserved : goal.loop-block-preserved
loop-block-preserved c = line_next (block_items c.args.links.now c.args.demands.now) c.args.blocks.now c.loop-block.block-index c.block-item.result c.loop-block-test.true c.block-item.is c.loop-block.invariant c.in_ok-put_block.ensures

pub returns : goal.returns
returns c = lines_all (block_items c.args.links.now c.args.demands.now) c.args.blocks.now c.loop-block.block-index (omega (arith, c.loop-block-test.false)) c.loop-block.invariant
