-- What the names in a report refer to.
use Rattle.std.specs.Prelude.{ℕ, List}
use Rattle.plan_terms.specs.Terms.{Link, Network, Places, Listed, States, Case}

-- the nodes, by their names, the links and the listed states that a report may name; and the places of its amounts and money
pub record KnownNames : Type 0 where
  pub nodes : List (List ℕ)
  pub links : List Link
  pub listed : List Listed
  pub places : Places

-- the record of these
abbrev pub known_as : Places → List (List ℕ) → List Link → List Listed → KnownNames
known_as places nodes links listed = record { nodes = nodes; links = links; listed = listed; places = places }

-- those of a network and its states
abbrev pub known_of : Network → States → KnownNames
known_of net states = known_as net.places net.nodes net.links states.listed

-- those of a case
abbrev pub known_to : Case → KnownNames
known_to p = known_as p.places p.nodes p.links p.listed
