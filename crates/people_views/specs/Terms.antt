-- The words of this crate, passed on from one place to other crates. Declares nothing.
pub use Rattle.people_views.specs.AcceptedReports.{IsAcceptedReport}
pub use Rattle.people_views.specs.ProofLines.{HasTreeLine, ReadsProof, SpellsPlanTree, proof_by, told_by}
pub use Rattle.people_views.specs.ReportEnds.{EndsReport, ShowsReportFault, ViewsReport}
pub use Rattle.people_views.specs.StateForms.{LacksState, NamesState, PicturesState}
pub use Rattle.people_views.specs.Forms.{IsFormOf}
pub use Rattle.people_views.specs.declared.form.ViewForm.TheVariants.{Tables, Values}
pub use Rattle.people_views.specs.declared.form.ViewForm.{ViewForm}
pub use Rattle.people_views.specs.Forms.{HasForm, IsFormOf}
