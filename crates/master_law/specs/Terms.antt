-- The words of this crate, passed on from one place to other crates. Declares nothing.
pub use Rattle.master_law.specs.BasisLines.{AreLinesOf}
pub use Rattle.master_law.specs.LeastShares.{IsLeastShare}
pub use Rattle.master_law.specs.MasterEvidence.{HasWideRight, HasWideValue, HoldsOfMaster, IsMasterEvidence}
pub use Rattle.master_law.specs.MasterPrograms.{IsCutColumn, IsMasterColumn, IsSameCut, column_given, column_lengths, cut_entry, cut_gain, master_bound, master_slack, unit_capacities}
pub use Rattle.master_law.specs.UnitPairs.{AreUnitPairs, IsPairOfLink, IsShareNeed, share_capacities, share_caps, share_cost}
