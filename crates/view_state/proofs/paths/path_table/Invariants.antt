use Rattle.std.proofs.Common.{◌≡◌, ◌∷◌, map, take}
use Rattle.view_state.specs.StateTables.{path_cells, path_heads}
use Rattle.view_state.proofs.paths.path_table.Given as goal

-- the rows so far
abbrev pub invariant-loop-row : goal.invariant-loop-row
invariant-loop-row l = l.all ≡ path_heads ∷ map (path_cells l.net.places l.net.nodes l.demands) (take l.row-index l.rows)
