use Rattle.std.proofs.Common.{◌<◌, length, subst, sym, List}
use Rattle.plan_terms.specs.Terms.{Module}
use Rattle.module_choice.proofs.Steps.{divides_each, some_scaled}
use Rattle.module_choice.proofs.tables.table_for.Goals as goal

pub all_in_steps-requires-clause-divides : goal.all_in_steps-requires-clause-divides
all_in_steps-requires-clause-divides c = divides_each c.args.step c.args.modules.now c.requires.divisor

pub least_costs-requires-clause-some : goal.least_costs-requires-clause-some
least_costs-requires-clause-some c some = subst (λ (ms : List Module). 0 < length ms) (sym c.items.ensures)
    (some_scaled c.args.step c.args.modules.now c.in_ok-scaled.scaled c.in_ok-scaled.ensures.scaled c.requires.divisor (c.few_steps.ensures.some some))
