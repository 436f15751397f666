use Rattle.plan_terms.specs.Terms.{case}
use Rattle.tree_check.proofs.Verdicts.{cheapest_holds, open_leaves_hold}
use Rattle.tree_check.proofs.check.check_tree.Goals as goal

pub returns-in-Ok-clause-cheapest : goal.returns-in-Ok-clause-cheapest
returns-in-Ok-clause-cheapest c = λ told is counts able.
    cheapest_holds (case c.args.net.now c.args.states.now c.args.demands.now) c.args.proof.now counts c.in-Ok.ensures.accepted is able

pub returns-in-Ok-clause-above : goal.returns-in-Ok-clause-above
returns-in-Ok-clause-above c = λ told least is counts able.
    open_leaves_hold (case c.args.net.now c.args.states.now c.args.demands.now) c.args.proof.now least counts c.in-Ok.ensures.accepted is able
