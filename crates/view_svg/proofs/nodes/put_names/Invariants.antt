use Rattle.std.proofs.Common.{◌≡◌, ◌++◌, take}
use Rattle.view_svg.specs.Pictures.{drawn_names}
use Rattle.view_svg.proofs.nodes.put_names.Given as goal

-- the names so far
abbrev pub invariant-loop-n : goal.invariant-loop-n
invariant-loop-n l = l.text ≡ l.fn.text ++ drawn_names (take l.n l.nodes) (take l.n l.spots)
