use Rattle.net_core.proofs.Networks.{modules_sound}
use Rattle.length_master.proofs.Optimal.{optimal}
use Rattle.length_master.proofs.guess.tested.Goals as goal

pub returns : goal.returns
returns c =
    let net = c.args.net.now in
    let cuts = c.args.cuts.now in
    let pairs = c.args.pairs.now in
    let rows = c.args.rows.now in
    let values = c.args.guess.values in
    let basic = (rw (c.items.ensures, c.items-2.ensures) at c.are_values.ensures) c.if-not-are_values.false in
    let prices = (rw (c.items-3.ensures, c.items-4.ensures) at c.are_prices.ensures) c.if-not-are_prices.false in
    optimal net.links pairs cuts (modules_sound net.nodes net.links net.checked) c.requires.units c.requires.lengths rows values.nums values.den basic c.in-Some.duals prices c.in_ok-basis.basis
    (rw c.items-5.ensures at c.in_ok-basis.ensures)
