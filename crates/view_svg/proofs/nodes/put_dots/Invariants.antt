use Rattle.std.proofs.Common.{◌≡◌, ◌++◌, flat_map, take}
use Rattle.view_svg.specs.Pictures.{drawn_dot}
use Rattle.view_svg.proofs.nodes.put_dots.Given as goal

-- the dots so far
abbrev pub invariant-loop-spot : goal.invariant-loop-spot
invariant-loop-spot l = l.text ≡ l.fn.text ++ flat_map drawn_dot (take l.spot-index l.spots)
