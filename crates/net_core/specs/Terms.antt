-- The words of networks, states and demands, passed on from one place to other crates. Declares nothing.
pub use Rattle.net_core.specs.Cases.{Case, graph_in}
pub use Rattle.net_core.specs.Demands.{AreDemands, IsDemand, total_need}
pub use Rattle.net_core.specs.Graphs.{Graph, HasEnds, Joins, Survives}
pub use Rattle.net_core.specs.Names.{IsName, begins_comment, is_plain, is_space, is_word_byte}
pub use Rattle.net_core.specs.Network.{IsLink, IsModule, IsNetwork, link_name, network_fault}
pub use Rattle.net_core.specs.Places.{digits_after_point}
pub use Rattle.net_core.specs.Settled.{settled_links, settled_notes}
pub use Rattle.net_core.specs.States.{AreStates, fails, names_link, single_state, states_fault}
pub use Rattle.net_core.specs.Sums.{sum_below}
pub use Rattle.net_core.specs.Tests.{are_same, first_fault, is_named}
pub use Rattle.net_core.specs.Views.{case, case_of, graph, graph_of}
