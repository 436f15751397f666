use Rattle.std.proofs.Common.{arith}
use Rattle.master_bound.{proofs.Certifying.best_of_none, proofs.Networks.network_modules}
use Rattle.master_bound.proofs.bound.best_of.Goals as goal

pub returns : goal.returns
returns c =
    let task = c.args.task.now in
    rw c.new.ensures
    (best_of_none task.net.now.links task.pairs.now task.cuts.now (network_modules task.net.now) c.requires.units c.args.optimum.now c.requires.solution c.in_ok-share.share c.in_ok-share.ensures c.raw_value-raw.result.num c.raw_value-raw.result.den
    (rw c.items.ensures at c.raw_value-raw.ensures) (omega (arith, c.if-raw-gt0.false)))
