use Rattle.std.proofs.Common.{◌≡◌, ◌∷◌, map, take}
use Rattle.plan_report.specs.Terms.{known_of}
use Rattle.view_text.specs.LinkCells.{cells_of_link, link_heads}
use Rattle.view_text.proofs.links.link_table.Given as goal

-- the rows so far
abbrev pub invariant-loop-row : goal.invariant-loop-row
invariant-loop-row l = l.all ≡ link_heads ∷ map (cells_of_link (known_of l.net l.states)) (take l.row-index l.rows)
