-- The words of networks, demands, routings and cuts, with the types of plans, passed on from one place to other crates. Declares nothing.
pub use Rattle.net_core.specs.Cases.{Case, graph_in}
pub use Rattle.net_core.specs.Demands.{AreDemands, IsDemand, total_need}
pub use Rattle.net_core.specs.Graphs.{Graph, HasEnds, Joins, Survives}
pub use Rattle.net_core.specs.Names.{IsName, begins_comment, is_plain, is_space, is_word_byte}
pub use Rattle.net_core.specs.Network.{IsLink, IsModule, IsNetwork, link_name, network_fault}
pub use Rattle.net_core.specs.Places.{digits_after_point}
pub use Rattle.net_core.specs.Settled.{settled_links, settled_notes}
pub use Rattle.net_core.specs.States.{AreStates, fails, names_link, single_state, states_fault}
pub use Rattle.net_core.specs.Sums.{sum_below}
pub use Rattle.net_core.specs.Tests.{are_same, first_fault, is_named}
pub use Rattle.net_core.specs.Views.{case, case_of, graph, graph_of}
pub use Rattle.net_core.specs.declared.columns.Evidence.{Evidence}
pub use Rattle.net_core.specs.declared.columns.Evidence.TheVariants.{Master, Route}
pub use Rattle.net_core.specs.declared.columns.MasterColumn.{MasterColumn}
pub use Rattle.net_core.specs.declared.columns.MasterColumn.TheVariants.{Metric}
pub use Rattle.net_core.specs.declared.columns.RouteColumn.{RouteColumn}
pub use Rattle.net_core.specs.declared.columns.RouteColumn.TheVariants.{Carry, DemandSlack, LinkSlack}
pub use Rattle.net_core.specs.declared.columns.WideKind.{WideKind}
pub use Rattle.net_core.specs.declared.columns.WideKind.TheVariants.{Common, Length, Number, Product, Row, Sum, Value}
pub use Rattle.net_core.specs.declared.demand.Demand.{Demand}
pub use Rattle.net_core.specs.declared.ids.LinkId.{LinkId}
pub use Rattle.net_core.specs.declared.ids.NodeId.{NodeId}
pub use Rattle.net_core.specs.declared.ids.StateId.{StateId}
pub use Rattle.net_core.specs.declared.instance.Problem.{Problem}
pub use Rattle.net_core.specs.declared.journal.Edit.{Edit}
pub use Rattle.net_core.specs.declared.journal.Edit.TheVariants.{Add, Drop, Set}
pub use Rattle.net_core.specs.declared.journal.Entry.{Entry}
pub use Rattle.net_core.specs.declared.journal.Entry.TheVariants.{Edited, Pooled}
pub use Rattle.net_core.specs.declared.journal.Reply.{Reply}
pub use Rattle.net_core.specs.declared.journal.Reply.TheVariants.{Accepted, KnownDemand, SelfDemand, TooMany, TooMuch, UnknownDemand, UnknownNode}
pub use Rattle.net_core.specs.declared.list.NoMemory.{NoMemory}
pub use Rattle.net_core.specs.declared.network.Link.{Link}
pub use Rattle.net_core.specs.declared.network.Module.{Module}
pub use Rattle.net_core.specs.declared.network.Network.{Network}
pub use Rattle.net_core.specs.declared.network.Notes.{Notes}
pub use Rattle.net_core.specs.declared.places.Places.{Places}
pub use Rattle.net_core.specs.declared.places.Places.TheVariants.{Six, Three}
pub use Rattle.net_core.specs.declared.plan.Caps.{Caps}
pub use Rattle.net_core.specs.declared.plan.CutLine.{CutLine}
pub use Rattle.net_core.specs.declared.plan.Flow.{Flow}
pub use Rattle.net_core.specs.declared.plan.Routing.{Routing}
pub use Rattle.net_core.specs.declared.route_task.RouteTask.{RouteTask}
pub use Rattle.net_core.specs.declared.states.Listed.{Listed}
pub use Rattle.net_core.specs.declared.states.States.{States}
pub use Rattle.net_core.specs.declared.states.StatesFault.{StatesFault}
pub use Rattle.plan_terms.specs.Bounds.{IsBound, IsGreatestDivisor, IsLowest, charges, link_charges, with_setup}
pub use Rattle.plan_terms.specs.Capacities.{AreCounts, AreWithinLimits, IsAble, capacities, installs, link_cost, modules_capacity, modules_cost, total_cost}
pub use Rattle.plan_terms.specs.Certificates.{AreKept, CertificateLine, HasShortLengths, IsCertificate, IsCut, IsRight, asked, fixed_along, given, price, raw_value}
pub use Rattle.plan_terms.specs.Covers.{AreOfOneKind, CoverLoads, Covers, IsFewSteps, MayCover, Reaches}
pub use Rattle.plan_terms.specs.Edits.{Answered, add_fault, added, edit_need, edit_reply, is_demand, next_version, node_of, set_need, version_after, within_total, without}
pub use Rattle.plan_terms.specs.Fallbacks.{IsFallback, IsLeastFlow, IsLeastRouting, peak, raised}
pub use Rattle.plan_terms.specs.Flows.{Carries, IsFlow, load, sent}
pub use Rattle.plan_terms.specs.Keeping.{AreZero, Keeps}
pub use Rattle.plan_terms.specs.LeastPaths.{IsLeastPath, IsLexLe}
pub use Rattle.plan_terms.specs.Openings.{AreOpening, MayKeep, each_once}
pub use Rattle.plan_terms.specs.OwnBounds.{IsBestOwn, IsMultiplier, IsOwnBound, IsValid}
pub use Rattle.plan_terms.specs.Paths.{AreApart, AreDifferent, IsDistance, IsPath, Leads, last_node, length_of}
pub use Rattle.plan_terms.specs.Prices.{ArePriceLengths, HasLeastUnitCost, IsPriceLength, IsSixteenths, IsUnitPair}
pub use Rattle.plan_terms.specs.Separations.{IsFirstSeparation, IsSurvivable, Separates}
pub use Rattle.plan_terms.specs.Violations.{Violates}
pub use Rattle.plan_terms.specs.inner.Ratios.{IsLeastRatio}
pub use Rattle.plan_terms.specs.inner.Walks.{Walk}
