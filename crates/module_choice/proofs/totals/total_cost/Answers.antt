use Rattle.std.proofs.Common.{◌∙◌}
use Rattle.plan_terms.specs.Terms.{total_cost}
use Rattle.module_choice.proofs.Pairs.{all_taken}
use Rattle.module_choice.proofs.totals.total_cost.Goals as goal

pub returns : goal.returns
returns c = c.loop-i.invariant.0 ∙ all_taken total_cost c.args.links.now c.args.counts.now c.loop-i.i c.requires.shape c.loop-i-test.false
