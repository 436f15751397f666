use Rattle.std.proofs.Common.{◌∷◌, [], arith}
use Rattle.text_kit.{specs.Terms.Opening, proofs.Lemmas.{adds_list, adds_next}}
use Rattle.plan_report.specs.Items.{master_column_items}
use Rattle.plan_report.proofs.evidence.put_master_basis.Goals as goal

pub loop-column-preserved : goal.loop-column-preserved
loop-column-preserved c = adds_next (Opening ∷ []) (master_column_items c.args.links.now) c.args.basis.now c.loop-column.column-index c.column-item.result c.loop-column-test.true c.column-item.is c.loop-column.invariant c.in_ok-put_master_column.ensures

pub returns : goal.returns
returns c = adds_list (master_column_items c.args.links.now) c.args.basis.now c.loop-column.column-index _ _ (omega (arith, c.loop-column-test.false)) c.loop-column.invariant c.put_close.ensures
