-- The words of this crate's contracts from other crates, passed on from one place to crates above. Declares nothing.
pub use Rattle.plan_checker.specs.declared.finding.Finding.TheVariants.{BadCut, BadPath, BoundDiffers, CertificateWide, CostDiffers, DemandsDiffer}
pub use Rattle.plan_checker.specs.declared.finding.Finding.TheVariants.{EntryDiffers, LocalCut, NotCarried, NotTight, NotesDiffer, Overloaded, PoolCount}
pub use Rattle.plan_checker.specs.declared.finding.Finding.TheVariants.{PoolDiffers, PriceExceeded, RawDiffers, RightDiffers, Survivable, VersionDiffers}
pub use Rattle.plan_checker.specs.declared.finding.Finding.{Finding}
pub use Rattle.report_checker.specs.Journals.{HoldsEntryDiffers, HoldsNotesDiffer, IsOtherEntry}
pub use Rattle.report_checker.specs.Outcomes.{HoldsVersionDiffers, IsAcceptedOutcome, IsBelowAllAble, SeparatesNamed, case_at, outcome_findings}
pub use Rattle.report_checker.specs.Pools.{HoldsBadCut, HoldsPoolCount, HoldsPoolDiffers, IsBadCut}
pub use Rattle.report_checker.specs.ReportFindings.{HasNoFinding, IsFirstOfReport, whole_findings}
