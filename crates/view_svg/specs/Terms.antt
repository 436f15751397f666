-- The words of this crate, passed on from one place to other crates. Declares nothing.
pub use Rattle.view_svg.specs.Pictures.{IsPicture}
pub use Rattle.view_svg.specs.ReportPictures.{IsReportPicture}
