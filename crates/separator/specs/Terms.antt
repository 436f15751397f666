-- The words of this crate's contracts from other crates, passed on from one place to crates above. Declares nothing.
pub use Rattle.warm_routing.specs.Terms.{IsEvidenceHere, IsRouted, RouteAnswer}
pub use Rattle.warm_routing.specs.WarmAnswers.{IsWarmAnswer}
pub use Rattle.separator.specs.Findings.{IsFinding, IsFoundCutOf}
pub use Rattle.separator.specs.Rooms.{HasRoomOver}
pub use Rattle.separator.specs.Separators.{AreAnswersUntilCut, AreRoundAnswers, AreStateAnswers, AreViolatedStates, Frame, IsAnswerOf, IsCutEntry, IsFullHistory, IsPartOf, IsSeenHistory, IsSeparatingCut, IsSpotIn, SeesMore, SeparatesAt, cut_answered, cuts_answered, cuts_since}
pub use Rattle.separator.specs.Spots.{IsSpotAfter}
