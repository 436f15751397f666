use Rattle.std.proofs.Common.{length-set, sym, ◌∙◌, arith}
use Rattle.net_core.proofs.Library.{false≢true}
use Rattle.path_split.proofs.Trailing.{flow_leaves, marks_push, walk_push}
use Rattle.path_split.proofs.walk.find_walk.Goals as goal

pub next_leg-k-requires-clause-some : goal.next_leg-k-requires-clause-some
next_leg-k-requires-clause-some c =
    flow_leaves c.args.legs.now c.args.lefts.now _ _ _ c.loop-at.trail c.loop-at.at.0 c.requires.steady c.loop-at.invariant.walk c.loop-at-test.true

pub loop-at-preserved : goal.loop-at-preserved
loop-at-preserved c =
    let was = c.loop-at.invariant in
    let next = c.next_leg-k.ensures in
    record {
      star = next.star;
      sizes = (next.size ∙ was.sizes.0, length-set _ _ _ ∙ was.sizes.1);
      inside = omega (arith, c.requires.steady.heads c.next_leg-k.result next.place, next.size, was.sizes.0);
      walk = rw c.in_ok-push.ensures.ok (walk_push c.args.legs.now c.args.lefts.now c.args.from.0 c.args.to.0 c.loop-at.trail c.loop-at.at.0 c.next_leg-k.result was.walk (next.place, next.left) next.from c.loop-at-test.true
          (λ h. false≢true (sym c.if-not-seen-at.true ∙ (was.marks c.loop-at.at.0).1 h)));
      marks = rw c.in_ok-push.ensures.ok (marks_push c.loop-at.seen c.args.legs.now c.loop-at.trail c.loop-at.at.0 c.next_leg-k.result (omega (arith, was.inside, was.sizes.0, was.sizes.1)) next.from was.marks);
    }
