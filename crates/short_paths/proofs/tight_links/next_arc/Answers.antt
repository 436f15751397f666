use Rattle.std.proofs.Common.{◌<◌, length, false, refl, arith}
use Rattle.net_core.proofs.Library.{both_ways}
use Rattle.short_paths.{proofs.ForwardStars.arc, proofs.Relaxing.{held, held_end}, proofs.Choosing.{best_other, best_later, best_now, best_next}, proofs.tight_links.next_arc.Goals.{then-is_tight+then-is_before, else-is_tight, else-is_tight-via-then-is_tight+else-is_before, else-is_tight-via-else-is_tight}}
use Rattle.short_paths.proofs.tight_links.next_arc.Goals as goal

pub is_tight-requires-clause-link : goal.is_tight-requires-clause-link
is_tight-requires-clause-link c =
    held (λ h. h.link.0 < length c.args.lengths.now) _ _ _ c.loop-arc.arc-index _ c.leaving-arc-items.ensures.here c.requires.lengths.each c.loop-arc-test.true

pub is_tight-requires-clause-head : goal.is_tight-requires-clause-head
is_tight-requires-clause-head c =
    omega (arith, c.requires.nodes, held_end _ _ _ _ c.loop-arc.arc-index (arc 0 0 0) c.leaving-arc-items.ensures.here c.args.star.now.within c.loop-arc-test.true)

pub loop-arc-preserved : goal.loop-arc-preserved
loop-arc-preserved c =
    elim c.if-is_tight.branch [
      | then-is_tight+then-is_before w ↦ rw w.best-is (best_now _ _ _ _ _ (arc 0 0 0) c.loop-arc.best c.loop-arc-test.true (c.is_tight.ensures.0 w.if-is_tight.true) w.if-is_before.ensures c.loop-arc.invariant)
      | else-is_tight w ↦ rw w.best-is (elim w.else-is_tight.branch [
        | else-is_tight-via-then-is_tight+else-is_before v ↦ best_later _ _ _ _ _ (arc 0 0 0) c.loop-arc.best c.loop-arc-test.true v.if-is_before.ensures c.loop-arc.invariant
        | else-is_tight-via-else-is_tight v ↦ best_other _ _ _ _ _ (arc 0 0 0) c.loop-arc.best c.loop-arc-test.true (λ f. both_ways false refl (v.if-is_tight.ensures.1 f)) c.loop-arc.invariant
      ])
    ]

pub returns : goal.returns
returns c =
    best_next _ _ _ _ _ _ _ _ _ c.leaving-arc-items.ensures.here c.leaving-arc-items.ensures.all c.args.star.now.within c.requires.nodes (omega arith) refl c.loop-arc.invariant
