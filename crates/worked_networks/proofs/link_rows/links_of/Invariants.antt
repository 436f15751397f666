use Rattle.std.proofs.Common.{◌≡◌, map, take}
use Rattle.worked_networks.specs.Tables.{ends_of, ends_of_row, letters}
use Rattle.worked_networks.proofs.link_rows.links_of.Given as goal

-- the links of the rows so far
abbrev pub invariant-loop-e : goal.invariant-loop-e
invariant-loop-e l =
    (map (λ k. k.name) l.links ≡ letters 97 l.e)
    × (map ends_of l.links ≡ map ends_of_row (take l.e l.rows))
    × (map (λ k. k.modules) l.links ≡ map (λ r. r.3.now) (take l.e l.rows))
