use Rattle.std.proofs.Common.{◌<◌, length, arith}
use Rattle.short_paths.{proofs.ForwardStars.arc, proofs.Relaxing.{relaxed_none, relaxed_more, relaxed_all, relaxed_sound, held, held_end}}
use Rattle.short_paths.proofs.dijkstra.relax.Goals as goal

pub loop-arc-init : goal.loop-arc-init
loop-arc-init c = relaxed_none _ _ _ _

pub improve-requires-clause-link : goal.improve-requires-clause-link
improve-requires-clause-link c =
    held (λ h. h.link.0 < length c.args.lengths.now) _ _ _ c.loop-arc.arc-index _ c.leaving-arc-items.ensures.here c.requires.lengths.each c.loop-arc-test.true

pub improve-requires-clause-head : goal.improve-requires-clause-head
improve-requires-clause-head c =
    omega (arith, held_end _ _ _ _ c.loop-arc.arc-index (arc 0 0 0) c.leaving-arc-items.ensures.here c.args.star.now.within c.loop-arc-test.true)

pub loop-arc-preserved : goal.loop-arc-preserved
loop-arc-preserved c =
    let end = held_end _ _ _ _ c.loop-arc.arc-index (arc 0 0 0) c.leaving-arc-items.ensures.here c.args.star.now.within c.loop-arc-test.true in
    rw c.improve.ensures (relaxed_more _ _ _ _ _ _ _ c.loop-arc-test.true (omega (arith, end)) c.loop-arc.invariant)

pub returns-clause-all : goal.returns-clause-all
returns-clause-all c = λ e y has.
    relaxed_all _ _ _ _ _ _ (omega arith) c.loop-arc.invariant e c.args.at.0 y (c.leaving-arc-items.ensures.all e y has)

pub returns-clause-sound : goal.returns-clause-sound
returns-clause-sound c = relaxed_sound _ _ _ _ _ _ _ _ c.leaving-arc-items.ensures.here c.loop-arc.invariant
