use Rattle.std.proofs.Common.{inr}
use Rattle.people_files.proofs.Causing.{cause_map}
use Rattle.people_commands.specs.Endings.{EndsFailures, ListsFailures}
use Rattle.people_commands.proofs.failures.failures_file.Goals as goal

pub returns-clause-ends : goal.returns-clause-ends
returns-clause-ends g c =
    let net = c.in_ok-net.net in
    let demands = c.in_ok-net.demands in
    cause_map (ListsFailures net demands) (EndsFailures (g.S.Shelf.files c.args.shelf.now) c.args.name.now) c.failures_of.result
    (λ s t m e. inr (net, demands, c.in_ok-net.ensures.has, e)) c.failures_of.ensures
