use Rattle.tree_boxes.{specs.Searches.aimed, proofs.Asked.{fixed_low, lowered_carried, lowered_shape}}
use Rattle.tree_boxes.proofs.asks.ask.Goals as goal

pub cost-requires : goal.cost-requires
cost-requires c = lowered_shape (aimed c.args.aim.now) c.args.counts c.in_ok-counts-in-Ok.counts c.requires.shape c.in_ok-counts-in-Ok.ensures.room

pub returns-in-Ok-clause-answer : goal.returns-in-Ok-clause-answer
returns-in-Ok-clause-answer c =
    let instance = c.args.aim.now.instance.now in
    let net = instance.net.now in
    lowered_carried (aimed c.args.aim.now) c.args.counts c.in_ok-counts-in-Ok.counts c.cost.result c.in-Ok.routings instance.belong (fixed_low net.nodes net.links net.checked)
    c.requires.shape c.in_ok-counts-in-Ok.ensures.room (rw c.in-Ok.is at c.in_ok-routings.ensures) c.cost.ensures
