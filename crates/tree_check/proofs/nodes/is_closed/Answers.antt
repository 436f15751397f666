use Rattle.std.proofs.Common.{◌≡◌, ◌≤◌, true, false, arith}
use Rattle.net_core.proofs.Library.{nat_tests}
use Rattle.tree_check.proofs.NodesHeld.{closed_by, closes_by}
use Rattle.tree_check.proofs.nodes.is_closed.Goals as goal

pub returns-in-None : goal.returns-in-None
returns-in-None c = (λ yes. absurd (let e : false ≡ true = yes in cc e), λ closes. absurd (c.in-None.ensures closes.value closes.has))

pub returns-in-Some : goal.returns-in-Some
returns-in-Some c =
    let t = c.args.tests.now in
    let box = c.args.boxed.now in
    let cert = c.args.cert.now in
    let value = c.in-Some.value in (
      λ yes. closes_by t box cert value c.in-Some.ensures (grind (arith, nat_tests)),
      λ closes. let reached : t.cost ≤ value = closed_by t box cert value c.in-Some.ensures closes in grind (arith, nat_tests),
    )
