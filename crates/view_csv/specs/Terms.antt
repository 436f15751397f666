-- The words of this crate, passed on from one place to other crates. Declares nothing.
pub use Rattle.view_csv.specs.Sheets.{IsSheet}
