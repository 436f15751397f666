use Rattle.std.proofs.Common.{◌∷◌, [], arith}
use Rattle.plan_report.specs.Terms.{route_column_items}
use Rattle.text_kit.specs.Terms.{Opening}
use Rattle.report_comments.proofs.Spacing.{spaced_list, spaced_next}
use Rattle.report_comments.proofs.evidence.put_basis.Goals as goal

pub loop-column-preserved : goal.loop-column-preserved
loop-column-preserved c = spaced_next (Opening ∷ []) (route_column_items c.args.links.now c.args.demands.now) c.args.basis.now c.loop-column.column-index c.column-item.result c.loop-column-test.true c.column-item.is c.loop-column.invariant c.in_ok-put_column.ensures

pub returns : goal.returns
returns c = spaced_list (route_column_items c.args.links.now c.args.demands.now) c.args.basis.now c.loop-column.column-index _ _ (omega (arith, c.loop-column-test.false)) c.loop-column.invariant c.put_close.ensures
