-- The words of this crate's contracts from other crates, passed on from one place to crates above. Declares nothing.
pub use Rattle.box_program.specs.Solutions.{IsSolutionOf}
