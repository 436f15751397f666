use Rattle.worked_networks.proofs.Singles.{singles_belong}
use Rattle.worked_networks.proofs.state_rows.single_failures.Goals as goal

pub unreachable-requires : goal.unreachable-requires
unreachable-requires c =
    singles_belong c.args.net.now.nodes c.args.net.now.links c.in_ok-listed.listed c.args.net.now.checked (rw (c.items.ensures, c.links.ensures) at c.in_ok-listed.ensures)
    (λ states. let ok = c.in-Err.ensures.accepted states in absurd cc)
