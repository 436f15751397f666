use Rattle.std.proofs.Common.{arith, zip}
use Rattle.net_core.proofs.Library.{length-zip}
use Rattle.text_kit.proofs.Lemmas.{adds_list}
use Rattle.plan_report.{specs.Items.modules_items, proofs.Putting.adds_pair}
use Rattle.plan_report.proofs.plans.put_modules.Goals as goal

pub loop-e-preserved : goal.loop-e-preserved
loop-e-preserved c = adds_pair modules_items c.args.links.now c.args.counts.now c.loop-e.e c.index-links-e.result c.index-counts-e.result c.loop-e-test.true c.requires c.index-links-e.is c.index-counts-e.is c.loop-e.invariant (rw c.items.ensures at c.in_ok-put_link_modules.ensures)

pub returns : goal.returns
returns c = adds_list modules_items (zip c.args.links.now c.args.counts.now) c.loop-e.e _ _ (omega (arith, c.loop-e-test.false, length-zip c.args.links.now c.args.counts.now)) c.loop-e.invariant c.put_close.ensures
