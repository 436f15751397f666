use Rattle.trim_plan.proofs.AtMost.{counts_both}
use Rattle.trim_plan.proofs.trimmed_plan.trim_counts.Goals as goal

pub returns-clause-fewer : goal.returns-clause-fewer
returns-clause-fewer c = counts_both c.settled_blocks.new.counts c.spare_modules.new.counts c.args.counts.now c.in_ok-blocks.ensures.fewer c.in_ok-spare_modules.ensures.fewer
