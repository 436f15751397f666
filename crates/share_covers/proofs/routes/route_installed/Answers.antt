use Rattle.std.proofs.Common.{List, ap, length, ◌∙◌, ℕ}
use Rattle.module_choice.proofs.Pairs.{capacities_long}
use Rattle.share_covers.proofs.routes.route_installed.Goals as goal

pub route_within-requires-clause-caps : goal.route_within-requires-clause-caps
route_within-requires-clause-caps c = ap (λ (ns : List ℕ). length ns) c.in_ok-caps.ensures.1 ∙ capacities_long c.args.instance.now.net.now.links c.args.counts.now c.requires.shape
