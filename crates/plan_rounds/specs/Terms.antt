-- The words of this crate's contracts from other crates, passed on from one place to crates above. Declares nothing.
pub use Rattle.master_bound.specs.Answers.{IsBestOf, cut_at, lines_of}
pub use Rattle.master_bound.specs.declared.answer.Best.{Best}
pub use Rattle.master_bound.specs.declared.answer.Multiplier.{Multiplier}
pub use Rattle.separator.specs.Separators.{IsFullHistory, IsSeenHistory, IsSpotIn, SeesMore}
pub use Rattle.plan_rounds.specs.WorkedRounds.{AreWorkedRounds, EndsBy, IsBestAt, IsBestOfLast, IsCarriedAt, IsPoolOf, IsWideAt, IsWorkedAlone, StandAtSpots}
