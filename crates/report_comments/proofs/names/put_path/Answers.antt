use Rattle.std.proofs.Common.{◌∷◌, [], arith}
use Rattle.plan_report.specs.Terms.{link_name}
use Rattle.text_kit.specs.Terms.{Verbatim, Opening}
use Rattle.report_comments.proofs.Spacing.{spaced_list, spaced_more}
use Rattle.report_comments.proofs.names.put_path.Goals as goal

pub loop-e-preserved : goal.loop-e-preserved
loop-e-preserved c = spaced_more (Opening ∷ []) (λ e. Verbatim (link_name c.args.links.now e) ∷ []) c.args.path.now c.loop-e.e-index (record { 0 = 0 }) c.loop-e-test.true c.loop-e.invariant c.in_ok-put_link_name.ensures

pub returns : goal.returns
returns c = spaced_list (λ e. Verbatim (link_name c.args.links.now e) ∷ []) c.args.path.now c.loop-e.e-index _ _ (omega (arith, c.loop-e-test.false)) c.loop-e.invariant c.put_close.ensures
