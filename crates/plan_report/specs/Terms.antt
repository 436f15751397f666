-- The words of this crate, with the types of plans, passed on from one place to other crates. Declares nothing.
pub use Rattle.plan_report.specs.Forms.{AreCapsInForm, AreLinkNumbers, AreRoutingsInForm, HasPoolLine, IsCauseInForm, IsCertificateInForm, IsCertificateLineInForm, IsCutInForm, IsDemandInForm, IsEditedInForm, IsEntryInForm, IsEvidenceInForm, IsFlowInForm, IsHeadInForm, IsKindInForm, IsMasterColumnInForm, IsMasterEvidenceInForm, IsOfPool, IsOutcomeInForm, IsPathInForm, IsPlanInForm, IsQualityInForm, IsReplyInForm, IsReportInForm, IsRouteColumnInForm, IsRouteEvidenceInForm, IsRoutingInForm, IsShareInForm, IsSpotInForm, line_lengths, line_state}
pub use Rattle.plan_report.specs.Items.{cause_items, certificate_items, certificate_line_items, demand_items, entry_items, event_items, evidence_items, flow_items, head_items, master_column_items, modules_items, note_items, notes_items, numbered_from, numbers_items, outcome_items, path_items, plan_items, pool_line_items, quality_items, reply_items, report_items, route_column_items, routing_items, routings_items, spot_items, wide_items}
pub use Rattle.plan_report.specs.KnownNames.{KnownNames, known_as, known_of, known_to}
pub use Rattle.plan_report.specs.Names.{demand_name, node_name, state_name}
pub use Rattle.plan_terms.specs.Terms.{link_name}
pub use Rattle.plan_report.specs.Texts.{SpellsReport, report_header, report_text}
pub use Rattle.plan_types.specs.declared.certificate.CertLine.{CertLine}
pub use Rattle.plan_types.specs.declared.certificate.Certificate.{Certificate}
pub use Rattle.plan_types.specs.declared.certificate.Spot.{Spot}
pub use Rattle.plan_types.specs.declared.certificate.Spot.TheVariants.{Local, Pool}
pub use Rattle.plan_types.specs.declared.plan.Plan.{Plan}
pub use Rattle.plan_types.specs.declared.quality.Cause.{Cause}
pub use Rattle.plan_types.specs.declared.quality.Cause.TheVariants.{Cuts, Wide}
pub use Rattle.plan_types.specs.declared.quality.Fractional.{Fractional}
pub use Rattle.plan_types.specs.declared.quality.Quality.{Quality}
pub use Rattle.plan_types.specs.declared.quality.Quality.TheVariants.{Loose, Tight}
pub use Rattle.plan_types.specs.declared.quality.Share.{Share}
pub use Rattle.plan_types.specs.declared.report.Outcome.{Outcome}
pub use Rattle.plan_types.specs.declared.report.Outcome.TheVariants.{Planned, Unsurvivable}
pub use Rattle.plan_types.specs.declared.report.Report.{Report}
pub use Rattle.plan_types.specs.Outcomes.{outcome_position}
pub use Rattle.plan_types.specs.Plans.{IsCarryingPlan, IsCertifiedPlan, IsCostedPlan, lines_of_certificate}
