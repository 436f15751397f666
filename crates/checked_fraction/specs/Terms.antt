-- The words of this crate, passed on from one place to other crates. Declares nothing.
pub use Rattle.checked_fraction.specs.Mixed.{IsFirstWide, IsTooWide, combined}
pub use Rattle.checked_fraction.specs.Rows.{IsInLowestTerms, IsNarrow, IsReduced, num}
pub use Rattle.checked_fraction.specs.Totals.{HasRoom, IsExact, total}
pub use Rattle.checked_fraction.specs.inner.Passes.{IsRowGcd}
