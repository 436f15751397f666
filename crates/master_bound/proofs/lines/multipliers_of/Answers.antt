use Rattle.std.proofs.Common.{length, refl}
use Rattle.net_core.proofs.Library.{slice_get_read}
use Rattle.master_bound.proofs.Multipliers.{multipliers_more}
use Rattle.master_bound.proofs.lines.multipliers_of.Goals as goal

pub loop-j-preserved : goal.loop-j-preserved
loop-j-preserved c =
    let basis = c.args.basis.now in
    multipliers_more c.args.cuts.now basis c.args.amounts.now c.args.common c.loop-j.j _ c.index-basis-j.result c.loop-j.multipliers c.push_multiplier.new.multipliers c.loop-j-test.true
    (slice_get_read basis (length basis) c.loop-j.j c.index-basis-j.result refl c.loop-j-test.true c.index-basis-j.is) refl c.in_ok-push_multiplier.ensures c.loop-j.invariant
