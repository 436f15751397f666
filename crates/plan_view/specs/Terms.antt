-- The words of this crate, passed on from one place to other crates. Declares nothing.
pub use Rattle.plan_view.specs.Loads.{IsFirstOfGreatest, IsFullestLink, den_in, load_in, routing_in}
pub use Rattle.plan_view.specs.Parts.{IsGap, asked_in_state, given_in_state, paid_by}
pub use Rattle.plan_view.specs.Reroutes.{brought_beyond, brought, goes_as, rerouted}
pub use Rattle.plan_view.specs.Rounding.{IsCeiling, IsNearest}
pub use Rattle.plan_view.specs.Rows.{AreLinkRows, AreLoadRows, AreStateRows, IsLinkRow, IsLoadRow, IsPlanSummary, IsStateRow, failed_links}
pub use Rattle.plan_view.specs.Sound.{IsSoundPlan}
pub use Rattle.plan_view.specs.FlowRows.{end_beyond, flow_row, nodes_along, rounded_over, start_of}
pub use Rattle.plan_view.specs.Cases.{HasSoundPlan, case_of_plan, problem_case}
