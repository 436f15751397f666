use Rattle.trim_plan.proofs.AtMost.{counts_both, counts_same}
use Rattle.trim_plan.proofs.spared_modules.spare_in_order.Goals as goal

pub loop-priced-init : goal.loop-priced-init
loop-priced-init c = record { routed = c.requires.routed; fewer = counts_same c.args.counts.now }

pub loop-priced-preserved : goal.loop-priced-preserved
loop-priced-preserved c = record {
  routed = c.in_ok-take_all_off.ensures.routed;
  fewer = counts_both c.take_all_off.new.counts c.loop-priced.counts c.args.counts.now c.in_ok-take_all_off.ensures.fewer c.loop-priced.invariant.fewer;
}
