-- what a plan is made for: a network, its failure states and its demands (the problem instance of SNDlib)
use Rattle.std.specs.Prelude.{ℕ, List}
use Rattle.net_core.{specs.declared.demand.Demand.Demand, specs.declared.network.Link.Link, specs.declared.places.Places.Places, specs.declared.states.Listed.Listed, specs.Graphs.Graph}

-- nodes, links, listed states and demands; the places say what a unit of their amounts is
pub record Case : Type 0 where
  pub nodes : List (List ℕ)
  pub links : List Link
  pub listed : List Listed
  pub demands : List Demand
  pub places : Places

-- the network of the case in state s
abbrev pub graph_in : Case → ℕ → Graph
graph_in p s = record { nodes = p.nodes; links = p.links; listed = p.listed; state = s }
