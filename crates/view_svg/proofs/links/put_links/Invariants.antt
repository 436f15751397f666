use Rattle.std.proofs.Common.{◌≡◌, ◌++◌, flat_map, take}
use Rattle.plan_report.specs.Terms.{known_of}
use Rattle.view_svg.specs.Pictures.{drawn_in_state}
use Rattle.view_svg.proofs.links.put_links.Given as goal

-- the links so far
abbrev pub invariant-loop-row : goal.invariant-loop-row
invariant-loop-row l =
    l.text ≡ l.fn.text ++ flat_map (drawn_in_state (known_of l.instance.net.now l.instance.states.now) l.strokes l.failed l.changes) (take l.row-index l.rows)
