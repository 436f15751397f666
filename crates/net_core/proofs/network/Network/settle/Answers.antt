use Rattle.std.proofs.Common.{List, subst, sym}
use Rattle.net_core.{specs.declared.network.Link.Link, specs.Network.IsNetwork, proofs.Networks.settled_network}
use Rattle.net_core.proofs.network.Network.settle.Goals as goal

pub invariant_of-result : goal.invariant_of-result
invariant_of-result c =
    record { checked = subst (λ (ls : List Link). ∥ IsNetwork c.args.self.nodes ls ∥₁) (sym c.settled_links.ensures) (settled_network c.args.charge c.args.self.nodes c.args.self.links c.args.self.checked) }
