-- The lemmas that other crates cite, passed on from one place. Declares nothing.
pub use Rattle.report_parts.proofs.CertificateLaws.{IsCertificate, IsPoolInForm, certificate_law}
pub use Rattle.report_parts.proofs.ColumnVariants.{evidence_cases, master_cases, route_cases, wide_cases}
pub use Rattle.report_parts.proofs.DemandLaws.{demands_apart, demands_law}
pub use Rattle.report_parts.proofs.ModuleLaws.{IsSound, all_counts_law, modules_law}
pub use Rattle.report_parts.proofs.PartsOnline.{all_counts_online, certificate_online, evidence_online, modules_online, plan_demands_online, quality_online, routings_online}
pub use Rattle.report_parts.proofs.QualityLaws.{quality_law}
pub use Rattle.report_parts.proofs.RoutingLaws.{AreLinksApart, routings_law}
