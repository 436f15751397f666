use Rattle.std.proofs.Common.{sym}
use Rattle.model_reader.proofs.FailureSingles.{singles_more}
use Rattle.model_reader.proofs.failure_singles.singles.Goals as goal

pub loop-i-preserved : goal.loop-i-preserved
loop-i-preserved c =
    rw (c.in_ok-push.ensures.ok, c.loop-i.invariant, c.in_ok-state.ensures)
    (sym (singles_more c.args.links.now c.loop-i.i c.index-links-i.result c.index-links-i.result c.loop-i-test.true c.index-links-i.is))
