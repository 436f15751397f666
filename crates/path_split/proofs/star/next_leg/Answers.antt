use Rattle.std.proofs.Common.{◌≤◌, get_or, subst, arith}
use Rattle.path_split.proofs.Picking.{leaving_some, past_empty}
use Rattle.path_split.proofs.star.next_leg.Goals as goal

pub loop-k-init : goal.loop-k-init
loop-k-init c =
    let r = leaving_some c.args.legs.now c.args.lefts.now c.args.at.0 c.requires.some in
    let places = c.args.places.now in
    let here : get_or places c.args.at.0 0 ≤ r.0 = subst (λ x. get_or places x 0 ≤ r.0) r.2 (c.requires.star.live r.0 r.1 r.3) in
    record {
      inside = omega (arith, here, r.1, c.requires.long);
      on = omega arith;
      left = λ j lt from some. subst (λ x. get_or places x 0 ≤ j) from (c.requires.star.live j lt some);
    }

pub loop-k-preserved : goal.loop-k-preserved
loop-k-preserved c =
    let r = leaving_some c.args.legs.now c.args.lefts.now c.args.at.0 c.requires.some in
    let was = c.loop-k.invariant in
    record {
      inside = omega (arith, past_empty c.args.lefts.now c.loop-k.k r.0 (was.left r.0 r.1 r.2 r.3) c.loop-k-test.true r.3, r.1, c.requires.long);
      on = omega (arith, was.on);
      left = λ j lt from some. past_empty c.args.lefts.now c.loop-k.k j (was.left j lt from some) c.loop-k-test.true some;
    }

pub returns-clause-from : goal.returns-clause-from
returns-clause-from c =
    let r = leaving_some c.args.legs.now c.args.lefts.now c.args.at.0 c.requires.some in
    let was = c.loop-k.invariant in
    let low = c.requires.star.after c.args.at.0 c.loop-k.k c.requires.at was.on (omega (arith, was.inside, c.requires.long)) in
    let high = c.requires.star.sorted c.loop-k.k r.0 (was.left r.0 r.1 r.2 r.3) r.1 in
    omega (arith, low, high, r.2)
