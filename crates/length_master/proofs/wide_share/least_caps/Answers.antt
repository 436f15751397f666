use Rattle.std.proofs.Common.{◌<◌, refl, subst, sym}
use Rattle.net_core.proofs.Networks.{modules_sound}
use Rattle.length_master.{specs.WideShares.AreLeastCaps, proofs.WideShares.{least_caps, ones_are}}
use Rattle.length_master.proofs.wide_share.least_caps.Goals as goal

pub returns : goal.returns
returns c =
    let net = c.args.net.now in
    let cuts = c.args.cuts.now in
    let pairs = c.args.pairs.now in
    let rows = c.args.rows.now in
    let values = c.args.values.now in
    let basic = (rw (c.items.ensures, c.items-2.ensures) at c.are_values.ensures) c.if-not-are_values.false in
    let prices = (rw (c.items-3.ensures, c.items-4.ensures) at c.are_prices.ensures) c.if-not-are_prices.false in
    let made = rw (c.items-5.ensures, c.links-2.ensures, c.items-6.ensures) at c.in_ok-caps.ensures in
    let one = ones_are c.len.result _ c.in_ok-ones.ones refl c.in_ok-ones.ensures in
    let same = rw c.links.ensures at c.len.ensures in
    subst (AreLeastCaps net.links cuts) (sym made)
    (least_caps net.links pairs cuts (modules_sound net.nodes net.links net.checked) c.requires.units c.requires.lengths rows values.nums values.den basic c.in_ok-ones.ones
    (λ e l. one e (subst (λ m. e < m) (sym same) l)) c.args.prices.now prices)
