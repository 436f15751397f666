use Rattle.master_bound.proofs.Entering.{entries_more}
use Rattle.master_bound.proofs.columns.entries_of.Goals as goal

pub loop-e-preserved : goal.loop-e-preserved
loop-e-preserved c =
    entries_more c.args.pairs.now c.args.lengths.now c.loop-e.e c.loop-e.entries c.push_entry.new.entries c.loop-e-test.true (c.requires.narrow c.loop-e.e c.loop-e-test.true) (rw c.entry_of.ensures at c.in_ok-push_entry.ensures) c.loop-e.invariant
