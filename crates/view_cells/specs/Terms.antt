-- The words of this crate, passed on from one place to other crates. Declares nothing.
pub use Rattle.view_cells.specs.Cells.{counted, joined_words, per_cent, tenths_per_cent}
pub use Rattle.view_cells.specs.ModuleWords.{kind_words, kinds_words}
pub use Rattle.view_cells.specs.Tables.{HasRows, HasRowsAbove, IsApart}
