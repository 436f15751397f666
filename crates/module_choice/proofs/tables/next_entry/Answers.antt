use Rattle.net_core.proofs.Library.{slice_get-get_or}
use Rattle.plan_terms.specs.Terms.{Module}
use Rattle.module_choice.proofs.LeastCosts.{next_first, next_more, next_of_all}
use Rattle.module_choice.proofs.tables.next_entry.Goals as goal

abbrev default : Module
default = record { capacity = 0; cost = 0 }

pub loop-kind-init : goal.loop-kind-init
loop-kind-init c = next_first c.args.modules.now c.args.entries.now c.cost_with.result _ c.requires.sound c.requires.some (slice_get-get_or c.args.modules.now 0 default c.requires.modules, c.cost_with.ensures)

pub loop-kind-preserved : goal.loop-kind-preserved
loop-kind-preserved c = next_more c.args.modules.now c.args.entries.now c.loop-kind.kind c.cost_with-cost.result _ c.loop-kind.best c.cheaper-best.result c.requires.sound c.requires.some (slice_get-get_or c.args.modules.now c.loop-kind.kind default c.loop-kind-test.true, c.cost_with-cost.ensures) c.loop-kind.invariant c.cheaper-best.ensures.one c.cheaper-best.ensures.least

pub returns : goal.returns
returns c = next_of_all c.args.modules.now c.args.entries.now c.loop-kind.kind c.loop-kind.best c.loop-kind-test.false c.loop-kind.invariant
