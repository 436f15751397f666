use Rattle.std.proofs.Common.{false, refl}
use Rattle.net_core.proofs.Library.{both_ways}
use Rattle.failure_states.proofs.Taking.{take_survivor, take_other}
use Rattle.failure_states.proofs.components.take_link.Goals as goal

pub returns-then-has : goal.returns-then-has
returns-then-has c =
    take_survivor _ _ _ _ _ c.args.graph.now.net.now.checked c.requires.link
    (rw (c.items.ensures, c.links.ensures) at c.index-items-link.is)
    (c.has.ensures.0 c.if-has.true) c.merge.ensures c.requires.labels

pub returns-else-has : goal.returns-else-has
returns-else-has c = take_other _ _ _ _ (λ v. both_ways false refl (c.if-has.ensures.1 v)) c.requires.labels
