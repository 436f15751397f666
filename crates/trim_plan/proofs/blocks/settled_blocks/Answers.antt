use Rattle.trim_plan.{specs.inner.Sparing.LowersCounts, proofs.AtMost.{counts_both, counts_same}}
use Rattle.trim_plan.proofs.blocks.settled_blocks.Goals as goal

pub settle-init : goal.settle-init
settle-init c = record { routed = c.requires.routed; fewer = counts_same c.args.counts.now }

pub settle-preserved : goal.settle-preserved
settle-preserved c =
    let lower : LowersCounts c.settle.counts c.blocks_or_less.new.counts = rw c.in_default.is at c.in_ok-blocks.ensures.blocks in
    record {
      routed = c.in_ok-blocks.ensures.routed;
      fewer = counts_both c.blocks_or_less.new.counts c.settle.counts c.args.counts.now lower.fewer c.settle.invariant.fewer;
    }
