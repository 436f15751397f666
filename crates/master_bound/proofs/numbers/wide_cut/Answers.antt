use Rattle.std.proofs.Common.{All, arith, subst, take_all}
use Rattle.net_core.proofs.Library.{All-more}
use Rattle.master_bound.specs.Narrow.{IsNarrowCut}
use Rattle.master_bound.proofs.numbers.wide_cut.Goals as goal

pub loop-k-preserved : goal.loop-k-preserved
loop-k-preserved c =
    All-more (IsNarrowCut c.args.links.now c.args.pairs.now) c.args.cuts.now c.loop-k.k c.index-cuts-k.result c.loop-k-test.true c.loop-k.invariant
    (subst (IsNarrowCut c.args.links.now c.args.pairs.now) c.index-cuts-k.is (c.is_wide.ensures.no c.if-is_wide.false))

pub returns : goal.returns
returns c =
    subst (All (IsNarrowCut c.args.links.now c.args.pairs.now)) (take_all c.loop-k.k c.args.cuts.now (omega (arith, c.loop-k-test.false))) c.loop-k.invariant
