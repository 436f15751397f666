use Rattle.model_reader.proofs.FailureSingles.{singles_pass}
use Rattle.model_reader.proofs.failure_singles.single_links.Goals as goal

pub unreachable-requires : goal.unreachable-requires
unreachable-requires c = singles_pass c.args.net.now.nodes c.args.net.now.links c.in-Err.field-0 c.in_ok-listed.listed c.args.net.now.checked (rw (c.items.ensures, c.links.ensures) at c.in_ok-listed.ensures) c.in-Err.ensures.faults
