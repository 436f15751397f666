use Rattle.std.proofs.Common.{subst}
use Rattle.plan_terms.specs.Terms.{graph}
use Rattle.metric_cut.{specs.Cuts.{IsCutOf, MayKeepCut}, proofs.Keepings.kept_have_bound}
use Rattle.metric_cut.proofs.cut.Cut.new.Goals as goal

-- what the surviving graph gives is a cut of it
is_cut : (c : goal.In-Some) → IsCutOf (graph c.args.net.now c.args.states.now c.args.state.0) c.in-Some.cut
is_cut c = (subst (MayKeepCut (graph c.args.net.now c.args.states.now c.args.state.0) c.args.lengths) c.in-Some.is c.in_ok-found.ensures.kept).1

pub returns-in-Some-clause-bound : goal.returns-in-Some-clause-bound
returns-in-Some-clause-bound c = kept_have_bound (graph c.args.net.now c.args.states.now c.args.state.0) _ (is_cut c).kept

pub returns-in-Some-clause-nodes : goal.returns-in-Some-clause-nodes
returns-in-Some-clause-nodes c = (is_cut c).distances.count
