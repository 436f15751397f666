use Rattle.std.proofs.Common.{◌-◌, arith}
use Rattle.outside_io.proofs.Reading.{ConsumesUpTo-once}
use Rattle.outside_io.proofs.files.read_whole.Goals as goal

pub returns-in-Some-clause-bounded : goal.returns-in-Some-clause-bounded
returns-in-Some-clause-bounded g c =
    ConsumesUpTo-once _ _ _ c.args.limit (c.args.limit - c.len.result) c.in-Some.answer c.loop.into c.read_once.new.into
    (omega arith) c.loop.invariant.1 c.in-Some.ensures
