use Rattle.share_covers.proofs.Widening.{wide_covers_are_loose}
use Rattle.share_covers.proofs.law.wide_covers_are_loose.Goals as goal

pub returns : goal.returns
returns c = wide_covers_are_loose
