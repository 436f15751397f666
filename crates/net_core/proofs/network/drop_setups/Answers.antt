use Rattle.std.{proofs.Common.rules, proofs.lemmas.List.Edits.map_over_more}
use Rattle.net_core.specs.Settled.{without_setup}
use Rattle.net_core.proofs.network.drop_setups.Goals as goal

pub loop-e-preserved : goal.loop-e-preserved
loop-e-preserved c = search (rules, map_over_more without_setup)
