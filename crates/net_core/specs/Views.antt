-- the graph and the case of values of the program
use Rattle.std.specs.Prelude.{ℕ, List}
use Rattle.net_core.{specs.declared.demand.Demand.Demand, specs.declared.graph.Surviving.Surviving, specs.declared.instance.Instance.Instance, specs.declared.network.Network.Network, specs.declared.states.States.States, specs.Cases.Case, specs.Graphs.Graph}

-- the network in state s
abbrev pub graph : Network → States → ℕ → Graph
graph net states s = record { nodes = net.nodes; links = net.links; listed = states.listed; state = s }

-- the graph of a network, its states and one of them
abbrev pub graph_of : Surviving → Graph
graph_of g = graph g.net.now g.states.now g.state.0

-- the network with its states and demands
abbrev pub case : Network → States → List Demand → Case
case net states demands = record { nodes = net.nodes; links = net.links; listed = states.listed; demands = demands; places = net.places }

-- the case of a network, its states and its demands
abbrev pub case_of : Instance → Case
case_of i = case i.net.now i.states.now i.demands.now
