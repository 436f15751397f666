use Rattle.std.proofs.Common.{◌≡◌, ◌∷◌, map, take}
use Rattle.view_text.specs.OutcomeCells.{outcome_cells, outcome_heads}
use Rattle.view_text.proofs.outcomes.outcome_table.Given as goal

-- the rows so far
abbrev pub invariant-loop-outcome : goal.invariant-loop-outcome
invariant-loop-outcome l = l.all ≡ outcome_heads ∷ map (outcome_cells l.places) (take l.outcome-index l.outcomes)
