use Rattle.std.proofs.Common.{◌≡◌, ◌∷◌, map, take}
use Rattle.view_state.specs.StateTables.{load_cells, load_heads}
use Rattle.view_state.proofs.loads.load_table.Given as goal

-- the rows so far
abbrev pub invariant-loop-row : goal.invariant-loop-row
invariant-loop-row l = l.all ≡ load_heads ∷ map (load_cells l.net.places l.net.nodes l.net.links) (take l.row-index l.rows)
