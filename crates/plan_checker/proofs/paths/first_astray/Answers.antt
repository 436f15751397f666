use Rattle.std.proofs.Common.{refl}
use Rattle.plan_terms.specs.Terms.{Joins, graph_of}
use Rattle.plan_checker.{specs.Carried.FollowsPath, proofs.Places.{all_held, each_more, none_at_all, none_more}}
use Rattle.plan_checker.proofs.paths.first_astray.Goals as goal

pub loop-f-preserved : goal.loop-f-preserved
loop-f-preserved c =
    let joins = Joins (graph_of c.args.graph.now) in
    let path = c.if-not-follows_path.ensures.0 refl in
    record {
      none = none_more c.args.flows.now (λ k flow. FollowsPath joins c.args.demands.now flow → ⊥) c.loop-f.f c.index-flows-f.result c.index-flows-f.is c.loop-f.invariant.none (λ not. not path);
      paths = each_more c.args.flows.now (λ k. FollowsPath joins c.args.demands.now) c.loop-f.f c.index-flows-f.result c.loop-f-test.true c.index-flows-f.is c.loop-f.invariant.paths path;
    }

pub returns-clause-first : goal.returns-clause-first
returns-clause-first c = none_at_all c.args.flows.now (λ k flow. FollowsPath (Joins (graph_of c.args.graph.now)) c.args.demands.now flow → ⊥) c.loop-f.f c.loop-f-test.false c.loop-f.invariant.none

pub returns-clause-paths : goal.returns-clause-paths
returns-clause-paths c = all_held c.args.flows.now (FollowsPath (Joins (graph_of c.args.graph.now)) c.args.demands.now) c.loop-f.f c.loop-f-test.false c.loop-f.invariant.paths
