use Rattle.std.proofs.Common.{◌∷◌, [], take, flat_map}
use Rattle.plan_report.specs.Terms.{link_name}
use Rattle.text_kit.specs.Terms.{Verbatim, Opening}
use Rattle.report_comments.specs.Comments.{AddsSpaced}
use Rattle.report_comments.proofs.names.put_path.Given as goal

abbrev pub invariant-loop-e : goal.invariant-loop-e
invariant-loop-e l = AddsSpaced l.fn.text (Opening ∷ flat_map (λ e. Verbatim (link_name l.links e) ∷ []) (take l.e-index l.path)) l.text
