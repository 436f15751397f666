use Rattle.std.proofs.Common.{arith, length}
use Rattle.net_core.proofs.Library.{ints}
use Rattle.checked_fraction.specs.Terms.{num}
use Rattle.length_master.proofs.Slots.{slack_length}
use Rattle.length_master.proofs.tested_basis.product_with.Goals as goal

pub returns-in-Slack : goal.returns-in-Slack
returns-in-Slack c =
    let product = slack_length (num c.args.nums.now) (length c.args.nums.now) (length c.args.cuts.now) c.in-Slack.e c.args.cuts.now c.args.slot c.in-Slack.is c.requires.inside in
    omega (arith, ints, c.number_at.ensures, c.number_at.type_inv, product)
