use Rattle.std.proofs.Common.{◌+◌, ◌*◌}
use Rattle.board_tests.proofs.callers.+edit_by+fn-edit_by-join+arg2+fn-edit_by-join+arg3.Given as goal

abbrev pub decreases-edit_by : goal.decreases-edit_by
decreases-edit_by g l = 2 * l.threads

abbrev pub decreases-join+arg2 : goal.decreases-join+arg2
decreases-join+arg2 g l = 2 * l.rest + 1

abbrev pub decreases-join+arg3 : goal.decreases-join+arg3
decreases-join+arg3 g l = 2 * l.some + 1
