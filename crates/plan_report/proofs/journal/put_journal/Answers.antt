use Rattle.std.proofs.Common.{arith}
use Rattle.plan_report.{specs.Items.entry_items, proofs.Putting.{adds_numbered, adds_numbered_list}}
use Rattle.plan_report.proofs.journal.put_journal.Goals as goal

pub loop-i-preserved : goal.loop-i-preserved
loop-i-preserved c = adds_numbered (entry_items c.args.places) 1 c.args.entries.now c.loop-i.i _ c.index-entries-i.result c.loop-i-test.true (omega arith) c.index-entries-i.is c.loop-i.invariant c.in_ok-put_entry.ensures

pub returns : goal.returns
returns c = adds_numbered_list (entry_items c.args.places) 1 c.args.entries.now c.loop-i.i _ _ (omega (arith, c.loop-i-test.false)) c.loop-i.invariant c.put_close.ensures
