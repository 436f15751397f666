use Rattle.std.proofs.Common.{◌≡◌, ◌++◌, flat_map, take}
use Rattle.view_svg.specs.Pictures.{changed_curve}
use Rattle.view_svg.proofs.paths.put_changed_curves.Given as goal

-- the curves so far
abbrev pub invariant-loop-row : goal.invariant-loop-row
invariant-loop-row l = l.text ≡ l.fn.text ++ flat_map (changed_curve l.strokes l.changes) (take l.row-index l.rows)
