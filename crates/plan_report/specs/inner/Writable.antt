-- what the writer needs of a demand
use Rattle.std.specs.Prelude.{ℕ, ◌<◌, ◌^◌, List, length}
use Rattle.plan_terms.specs.Terms.{Demand}

-- two of the nodes, and a need below 2^40 units
pub record IsWritableDemand (nodes : List (List ℕ)) (d : Demand) : Type 0 where
  pub from : d.from.0 < length nodes
  pub to : d.to.0 < length nodes
  pub need : d.need < 2 ^ 40
