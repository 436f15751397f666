use Rattle.std.proofs.Common.{length-drop}
use Rattle.path_split.proofs.Circles.{circle_enough, circle_taken, take_rest}
use Rattle.path_split.proofs.split.take_circle.Goals as goal

pub take_off-requires : goal.take_off-requires
take_off-requires c =
    let trail = c.args.trail.now in
    let start = c.place_of-start.result in
    circle_enough c.args.legs.now c.args.lefts.now trail _ start _ (take_rest trail start (length-drop start trail)) c.requires.long c.requires.live c.requires.different c.least_left-num.ensures.left

pub returns : goal.returns
returns c =
    let trail = c.args.trail.now in
    let start = c.place_of-start.result in
    circle_taken c.args.legs.now c.args.lefts.now trail _ start _ (take_rest trail start (length-drop start trail)) c.requires.long c.requires.live c.requires.different c.least_left-num.ensures.left
    c.args.at.0 _ c.place_of-start.ensures.place c.place_of-start.ensures.from c.least_left-num.ensures.reached c.take_off.ensures
