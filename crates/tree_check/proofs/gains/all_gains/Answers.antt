use Rattle.std.proofs.Common.{refl}
use Rattle.tree_check.proofs.GainsMade.{few_modules, gains_more}
use Rattle.tree_check.proofs.gains.all_gains.Goals as goal

pub add_link-requires-clause-few : goal.add_link-requires-clause-few
add_link-requires-clause-few c = few_modules c.args.of.now.links.now c.args.of.now.sound c.loop-e.e

pub loop-e-preserved : goal.loop-e-preserved
loop-e-preserved c =
    let w = c.args.of.now in
    gains_more w c.loop-e.e c.loop-e.sums c.add_link.new.sums c.loop-e.invariant (few_modules w.links.now w.sound c.loop-e.e) (c.if-not-add_link.ensures.added refl)
