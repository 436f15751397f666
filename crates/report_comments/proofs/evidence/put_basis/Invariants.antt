use Rattle.std.proofs.Common.{◌∷◌, take, flat_map}
use Rattle.plan_report.specs.Terms.{route_column_items}
use Rattle.text_kit.specs.Terms.{Opening}
use Rattle.report_comments.specs.Comments.{AddsSpaced}
use Rattle.report_comments.proofs.evidence.put_basis.Given as goal

abbrev pub invariant-loop-column : goal.invariant-loop-column
invariant-loop-column l = AddsSpaced l.fn.text (Opening ∷ flat_map (route_column_items l.links l.demands) (take l.column-index l.basis)) l.text
