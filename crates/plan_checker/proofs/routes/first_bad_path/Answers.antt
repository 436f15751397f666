use Rattle.std.proofs.Common.{ℕ, All, List, get_or, subst, arith}
use Rattle.net_core.proofs.Library.{slice_get_within}
use Rattle.plan_terms.specs.Terms.{graph_in, Joins, case_of, Demand, Flow, Routing}
use Rattle.plan_checker.{specs.Carried.{FollowsPath, HasBadPath}, specs.Places.{HoldsAt, IsLeastPlace}, proofs.Places.{each_read, groups_more, held_at, held_read, held_within, holds_read}}
use Rattle.plan_checker.proofs.routes.first_bad_path.Goals as goal

pub loop-s-preserved : goal.loop-s-preserved
loop-s-preserved c =
    let p = case_of c.args.instance.now in
    let s = c.loop-s.s in
    let r = c.index-routings-s.result in
    let joins = Joins (graph_in p s) in
    record {
      none = groups_more (HasBadPath p c.args.routings.now) s c.loop-s.invariant.none (λ j h.
          subst (λ (ds : List Demand). (k : ℕ) → HoldsAt (get_or c.args.routings.now s r).flows k (λ flow. FollowsPath joins ds flow → ⊥) → ⊥) c.items-demands.ensures
          (subst (λ (fs : List Flow). (k : ℕ) → HoldsAt fs k (λ flow. FollowsPath joins c.items-demands.result.now flow → ⊥) → ⊥) c.items.ensures c.in_default.ensures.first)
          j (held_read c.args.routings.now (λ t (x : Routing). HoldsAt x.flows j (λ flow. FollowsPath (Joins (graph_in p t)) p.demands flow → ⊥)) s r c.loop-s-test.true h));
      paths = each_read c.args.routings.now (λ t (x : Routing). All (FollowsPath (Joins (graph_in p t)) p.demands) x.flows) s r c.loop-s-test.true c.loop-s.invariant.paths
          (subst (λ (ds : List Demand). All (FollowsPath joins ds) (get_or c.args.routings.now s r).flows) c.items-demands.ensures
          (subst (λ (fs : List Flow). All (FollowsPath joins c.items-demands.result.now) fs) c.items.ensures c.in_default.ensures.paths));
    }

pub returns-in-Some-clause-first : goal.returns-in-Some-clause-first
returns-in-Some-clause-first c =
    let p = case_of c.args.instance.now in
    let s = c.loop-s.s in
    let r = c.index-routings-s.result in
    let joins = Joins (graph_in p s) in
    let at = c.in-Some.at in
    let first = subst (λ (ds : List Demand). IsLeastPlace (λ k. HoldsAt (get_or c.args.routings.now s r).flows k (λ flow. FollowsPath joins ds flow → ⊥)) at) c.items-demands.ensures
    (subst (λ (fs : List Flow). IsLeastPlace (λ k. HoldsAt fs k (λ flow. FollowsPath joins c.items-demands.result.now flow → ⊥)) at) c.items.ensures c.in-Some.ensures.first) in (
      holds_read c.args.routings.now (λ t (x : Routing). HoldsAt x.flows at (λ flow. FollowsPath (Joins (graph_in p t)) p.demands flow → ⊥)) s r c.loop-s-test.true first.0,
      c.loop-s.invariant.none,
      λ j lt h. first.1 j lt (held_read c.args.routings.now (λ t (x : Routing). HoldsAt x.flows j (λ flow. FollowsPath (Joins (graph_in p t)) p.demands flow → ⊥)) s r c.loop-s-test.true h),
    )

pub returns-clause-first : goal.returns-clause-first
returns-clause-first c = λ s k h. c.loop-s.invariant.none s k (omega (arith, held_within c.args.routings.now (λ t (x : Routing). HoldsAt x.flows k (λ flow. FollowsPath (Joins (graph_in (case_of c.args.instance.now) t)) c.args.instance.now.demands.now flow → ⊥)) s h, c.loop-s-test.false)) h

pub returns-clause-paths : goal.returns-clause-paths
returns-clause-paths c = λ s r at.
    let p = case_of c.args.instance.now in
    held_at c.args.routings.now (λ t (x : Routing). All (FollowsPath (Joins (graph_in p t)) p.demands) x.flows) s r at (c.loop-s.invariant.paths s (omega (arith, slice_get_within c.args.routings.now s r at, c.loop-s-test.false)))
