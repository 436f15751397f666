use Rattle.std.proofs.Common.{get_or, None}
use Rattle.plan_terms.specs.Terms.{Joins, graph}
use Rattle.report_checker.proofs.Apart.{told_apart}
use Rattle.report_checker.proofs.outcomes.are_apart.Goals as goal

pub returns : goal.returns
returns c =
    let joins = Joins (graph c.args.instance.now.net.now c.args.instance.now.states.now c.args.state.0) in
    told_apart joins c.in_ok-lengths.lengths c.args.demand.now.from.0 c.args.demand.now.to.0 (get_or c.in_ok-far.far c.args.demand.now.to.0 None) c.is_none.result (rw c.items.ensures at c.is_none.ensures) (c.in_ok-far.ensures.each c.args.demand.now.to.0 c.requires.to)
