use Rattle.std.proofs.Common.{◌+◌}
use Rattle.checked_fraction.proofs.fraction.+cmp.Given as goal

abbrev pub decreases-cmp : goal.decreases-cmp
decreases-cmp l = l.b + l.d
