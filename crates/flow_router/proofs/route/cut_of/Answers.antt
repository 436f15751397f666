use Rattle.std.proofs.Common.{subst}
use Rattle.plan_terms.specs.Terms.{graph_of}
use Rattle.metric_cut.specs.Cuts.{MayKeepCut}
use Rattle.route_law.proofs.Lemmas.{link_prices_are_violated, some_price}
use Rattle.flow_router.proofs.route.cut_of.Goals as goal

pub unreachable-requires : goal.unreachable-requires
unreachable-requires c =
    let task = c.args.task.now in
    let p = c.requires.priced in
    let zero = subst (MayKeepCut (graph_of task.graph) c.args.lengths) c.in-None.is c.in_ok-found.ensures.kept in
    some_price (graph_of task.graph) task.demands.now task.caps.now p.basis p.duals p.den p.best p.prices.factor c.args.lengths p.prices.same c.requires.joined zero c.requires.below

pub returns : goal.returns
returns c =
    let task = c.args.task.now in
    let cut = c.in-Some.cut in
    let kept = subst (MayKeepCut (graph_of task.graph) c.args.lengths) c.in-Some.is c.in_ok-found.ensures.kept in
    record {
      of = kept.1;
      lengths = c.args.lengths;
      priced = c.requires.priced;
      keeps = kept.0;
      violated = λ right is. link_prices_are_violated (graph_of task.graph) task.demands.now task.caps.now c.args.lengths (record { state = cut.state; lengths = cut.lengths; right = right })
          c.requires.joined c.requires.priced c.requires.below kept.0 is;
    }
