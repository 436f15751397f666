use Rattle.std.proofs.Common.{◌∙◌}
use Rattle.plan_terms.specs.Terms.{capacities}
use Rattle.module_choice.proofs.Pairs.{all_taken}
use Rattle.module_choice.proofs.totals.all_capacities.Goals as goal

pub returns : goal.returns
returns c = c.loop-i.invariant ∙ all_taken capacities c.args.links.now c.args.counts.now c.loop-i.i c.requires.shape c.loop-i-test.false
