use Rattle.std.proofs.Common.{arith, sym, ◌∙◌}
use Rattle.net_core.proofs.NetworkChecks.{link_found}
use Rattle.net_core.proofs.network.first_link_fault.Goals as goal

pub returns-then-is_some : goal.returns-then-is_some
returns-then-is_some c =
    link_found c.args.nodes c.args.links.now c.loop-i.i c.index-links-i.result c.link_fault-fault.result _ (omega arith) c.index-links-i.is c.link_fault-fault.ensures (sym c.is_some.ensures ∙ c.if-is_some.true) c.loop-i.invariant
