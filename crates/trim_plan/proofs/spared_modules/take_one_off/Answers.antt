use Rattle.trim_plan.proofs.AtMost.{counts_same}
use Rattle.trim_plan.proofs.spared_modules.take_one_off.Goals as goal

pub returns-then-module_count-eq0-clause-fewer : goal.returns-then-module_count-eq0-clause-fewer
returns-then-module_count-eq0-clause-fewer c = counts_same c.args.counts.now
