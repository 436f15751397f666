-- The words of this crate, passed on from one place to other crates. Declares nothing.
pub use Rattle.simplex_law.specs.Bases.{AreGainingSteps, AreNames, Gains, IsBest, IsFeasible, IsInverseRow, IsReached, IsRow}
pub use Rattle.simplex_law.specs.Evidence.{HoldsCommon, HoldsKind, HoldsNumber, HoldsProduct, HoldsRow, HoldsSum, IsReachedEvidence, IsRowOf, IsWide}
pub use Rattle.simplex_law.specs.Optima.{FitBounds, IsGreatestGain, IsOptimum}
pub use Rattle.simplex_law.specs.Programs.{ColumnOf, IsPacking, IsProgramColumn, IsSlack, entry_at, slack_basis}
pub use Rattle.simplex_law.specs.Sums.{dot, int_sum, put, unit_vector}
pub use Rattle.simplex_law.specs.inner.Lexicographic.{IsLexNonneg, valued}
pub use Rattle.simplex_law.specs.inner.Measures.{AreNarrowDuals, left_over}
unfoldable pub use Rattle.simplex_law.specs.inner.Measures.{digit, left_below, lex_number}
pub use Rattle.simplex_law.specs.inner.Pivots.{IsNoLater, IsPick, IsRatioLe, IsTurned}
pub use Rattle.simplex_law.specs.inner.Tableaux.{HasTableau, IsTableau}
