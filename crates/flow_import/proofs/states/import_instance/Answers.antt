use Rattle.std.proofs.Common.{ℕ, List, length, ap, ◌∙◌}
use Rattle.module_choice.proofs.Pairs.{capacities_long}
use Rattle.flow_import.proofs.states.import_instance.Goals as goal

pub import_states-requires-clause-caps : goal.import_states-requires-clause-caps
import_states-requires-clause-caps c = ap (λ (ns : List ℕ). length ns) (c.items.ensures ∙ c.in_ok-caps.ensures.1) ∙ capacities_long c.args.instance.now.net.now.links c.args.file.counts c.requires.counts
