-- The words of this crate, passed on from one place to other crates. Declares nothing.
pub use Rattle.simplex_core.specs.Columns.{AreEntries, HaveApartRows, IsEntry, column_from, column_of, entry_of}
pub use Rattle.simplex_core.specs.Multiples.{HaveNoMultiple, IsCommonMultiple, IsLeastMultiple}
pub use Rattle.simplex_core.specs.Orders.{HasOrder}
pub use Rattle.simplex_core.specs.Prices.{Finds, GainsAt, IsGainingColumn}
pub use Rattle.simplex_core.specs.Programs.{IsSimplexAnswer, Solves}
pub use Rattle.simplex_core.specs.Tables.{IsRectangle, den_at, den_of, nums_at, nums_of}
pub use Rattle.simplex_core.specs.Turned.{AreTurned, FindsWideProduct, HavePivot, IsNarrowOver, IsWideRow}
pub use Rattle.simplex_core.specs.inner.Commons.{DivideAll, HaveNoDenominator, IsDenominator}
pub use Rattle.simplex_core.specs.inner.Shapes.{AtEach, IsUnit}
