-- The words of this crate, passed on from one place to other crates. Declares nothing.
pub use Rattle.view_text.specs.CostProofs.{HoldsProof, CostsAtLeast}
pub use Rattle.view_text.specs.Reports.{HoldsOfSingle, IsFirstBlock, IsReportView}
