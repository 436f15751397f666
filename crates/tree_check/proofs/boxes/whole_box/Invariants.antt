use Rattle.std.proofs.Common.{◌≡◌, take}
use Rattle.tree_check.specs.Boxes.{whole_box}
use Rattle.tree_check.proofs.boxes.whole_box.Given as goal

-- the spans of the links so far
abbrev pub invariant-loop-link : goal.invariant-loop-link
invariant-loop-link l = l.spans ≡ whole_box (take l.link-index l.links)
