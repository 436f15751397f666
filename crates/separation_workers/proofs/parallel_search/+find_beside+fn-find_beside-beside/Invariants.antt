use Rattle.std.proofs.Common.{◌+◌, ◌-◌, ◌*◌}
use Rattle.separation_workers.proofs.parallel_search.+find_beside+fn-find_beside-beside.Given as goal

abbrev pub decreases-find_beside : goal.decreases-find_beside
decreases-find_beside g l = 2 * l.helpers

abbrev pub decreases-beside : goal.decreases-beside
decreases-beside g l = 2 * (l.helpers - 1) + 1
