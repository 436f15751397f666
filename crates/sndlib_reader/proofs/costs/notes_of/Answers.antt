use Rattle.std.proofs.Common.{sym}
use Rattle.sndlib_reader.proofs.NotesLaws.{notes_more}
use Rattle.sndlib_reader.proofs.costs.notes_of.Goals as goal

pub loop-costed-preserved : goal.loop-costed-preserved
loop-costed-preserved c = sym (notes_more c.args.links.now c.loop-costed.costed-index c.costed-item.result c.loop-costed-test.true c.costed-item.is c.loop-costed.notes c.loop-costed.invariant)
