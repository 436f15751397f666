use Rattle.trim_plan.proofs.AtMost.{counts_both, counts_same}
use Rattle.trim_plan.proofs.spared_modules.take_all_off.Goals as goal

pub loop-init : goal.loop-init
loop-init c = record { routed = c.requires.routed; fewer = counts_same c.args.counts.now }

pub loop-preserved : goal.loop-preserved
loop-preserved c = record {
  routed = c.in_ok-take_one_off.ensures.routed;
  fewer = counts_both c.take_one_off.new.counts c.loop.counts c.args.counts.now c.in_ok-take_one_off.ensures.fewer c.loop.invariant.fewer;
}

pub returns-then-not-branch-clause-fewer : goal.returns-then-not-branch-clause-fewer
returns-then-not-branch-clause-fewer c = counts_both c.take_one_off.new.counts c.loop.counts c.args.counts.now c.in_ok-take_one_off.ensures.fewer c.loop.invariant.fewer
