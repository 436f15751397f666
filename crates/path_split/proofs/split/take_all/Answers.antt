use Rattle.std.proofs.Common.{◌∙◌, sym, arith}
use Rattle.path_split.proofs.Steps.{are_steady, moves_moved, star_lower}
use Rattle.path_split.proofs.split.take_all.Goals as goal

pub find_walk-requires-clause-steady : goal.find_walk-requires-clause-steady
find_walk-requires-clause-steady c =
    are_steady c.args.legs.now c.loop-left.lefts _ _ _ c.loop-left.left c.loop-left.flows c.requires.ends c.loop-left-test.true (rw c.loop-left.invariant.sizes.0 c.requires.heads) c.loop-left.invariant.state

pub loop-left-preserved : goal.loop-left-preserved
loop-left-preserved c =
    let was = c.loop-left.invariant in
    let sizes = c.find_walk.ensures.sizes in
    let m = moves_moved c.args.legs.now c.args.from.0 c.args.to.0 _ _ c.loop-left.lefts _ c.loop-left.left _ _ _ c.requires.ends c.in_ok-found.ensures.walk was.state c.in_ok-left.ensures in
    record {
      star = star_lower c.args.legs.now c.loop-left.lefts _ _ m.lower c.find_walk.ensures.star;
      sizes = (sizes.0 ∙ was.sizes.0, sizes.1 ∙ (was.sizes.1 ∙ sym sizes.0));
      state = m.state;
      met = omega (arith, m.met, was.met);
    }

pub loop-left-smaller : goal.loop-left-smaller
loop-left-smaller c =
    (moves_moved c.args.legs.now c.args.from.0 c.args.to.0 _ _ c.loop-left.lefts _ c.loop-left.left _ _ _ c.requires.ends c.in_ok-found.ensures.walk c.loop-left.invariant.state c.in_ok-left.ensures).less
