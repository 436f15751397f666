use Rattle.std.proofs.Common.{◌*◌}
use Rattle.plan_terms.proofs.Lemmas.{smaller_ratio}
use Rattle.metric_cut.proofs.ratio.lesser.Goals as goal

pub returns-then-m-best-clause-kept : goal.returns-then-m-best-clause-kept
returns-then-m-best-clause-kept c other size before =
    smaller_ratio c.args.best.cost c.args.best.size c.args.m.now.cost (c.args.m.now.capacity * c.args.length) other size c.if-m-best.true before
