-- The words of this crate, passed on from one place to other crates. Declares nothing.
pub use Rattle.plan_law.specs.LoosePlans.{HasQuality, IsLooseBy, IsLooseByWidth, IsWideInState, IsWorkedPlan, KeepsUp}
pub use Rattle.plan_law.specs.TightPlans.{AreCarriedByShare, CostsAtMostCover, CostsRawValue, CoversShare, IsProperShare, IsTightPlan}
pub use Rattle.plan_law.specs.WorkedLists.{AreDifferentCuts, AreRounds, HasCut, IsBeginning, IsFoundCut, IsRound, IsWorkedList, Lacks, Round, after_rounds}
