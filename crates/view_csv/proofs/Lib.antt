pub mod PlanRows
pub mod StateFlows
mod Written
