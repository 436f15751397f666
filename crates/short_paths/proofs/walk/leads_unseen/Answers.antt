use Rattle.std.proofs.Common.{◌+◌, ◌<◌, length, drop, refl, sym, subst, arith}
use Rattle.net_core.proofs.Library.{false≢true, at_drop_more}
use Rattle.plan_terms.{specs.Terms.{Joins, graph_of, LinkId}, proofs.Lemmas.joins_inside}
use Rattle.short_paths.{specs.inner.Walks.IsUnseenPath, proofs.Walks.{walk_off, walk_on, walk_stops}}
use Rattle.short_paths.proofs.walk.leads_unseen.Goals as goal

abbrev first_link : LinkId
first_link = record { 0 = 0 }

pub returns-in_default : goal.returns-in_default
returns-in_default c =
    let g = graph_of c.args.graph.now in
    let rest = at_drop_more (λ es. es) c.args.path.now c.loop-e.e-index first_link c.loop-e-test.true in
    record {
      unseen = (
        λ t. absurd (false≢true t),
        λ h. absurd (walk_stops g c.loop-e.seen c.args.to.0 c.loop-e.at.0 _ _ (λ y. c.in_default.ensures.none y) (subst (IsUnseenPath (Joins g) c.loop-e.seen c.loop-e.at.0 c.args.to.0) rest (c.loop-e.invariant.same.1 h))),
      );
    }

pub mark-requires : goal.mark-requires
mark-requires c =
    omega (arith, (joins_inside (graph_of c.args.graph.now) _ _ _ c.args.graph.now.net.now.checked c.in-Some.ensures.some).1, c.loop-e.invariant.size)

pub loop-e-preserved : goal.loop-e-preserved
loop-e-preserved c =
    let g = graph_of c.args.graph.now in
    let rest = at_drop_more (λ es. es) c.args.path.now c.loop-e.e-index first_link c.loop-e-test.true in
    let joins = c.in-Some.ensures.some in
    let lt : c.in-Some.next.0 < length c.loop-e.seen = omega (arith, (joins_inside g _ _ _ c.args.graph.now.net.now.checked joins).1, c.loop-e.invariant.size) in
    record {
      size = omega (arith, c.loop-e.invariant.size, c.mark.auto.seen);
      same = (
        λ h. c.loop-e.invariant.same.0 (subst (IsUnseenPath (Joins g) c.loop-e.seen c.loop-e.at.0 c.args.to.0) (sym rest) (walk_on g c.loop-e.seen c.args.to.0 c.loop-e.at.0 c.in-Some.next.0 _ _ joins lt (c.if-not-mark.ensures.unseen.0 refl) (subst (λ s. IsUnseenPath (Joins g) s c.in-Some.next.0 c.args.to.0 (drop (c.loop-e.e-index + 1) c.args.path.now)) c.mark.ensures.marked h))),
        λ h. subst (λ s. IsUnseenPath (Joins g) s c.in-Some.next.0 c.args.to.0 (drop (c.loop-e.e-index + 1) c.args.path.now)) (sym c.mark.ensures.marked) (walk_off g c.loop-e.seen c.args.to.0 c.loop-e.at.0 c.in-Some.next.0 _ _ joins (subst (IsUnseenPath (Joins g) c.loop-e.seen c.loop-e.at.0 c.args.to.0) rest (c.loop-e.invariant.same.1 h))).1,
      );
    }
