use Rattle.std.proofs.Common.{◌+◌, ◌-◌, ◌*◌}
use Rattle.session_run.proofs.groups.+fn-run_callers-join+arg2+fn-run_callers-join+arg3+run_callers.Given as goal

abbrev pub decreases-run_callers : goal.decreases-run_callers
decreases-run_callers g l = 2 * (l.high - l.low)

abbrev pub decreases-join+arg2 : goal.decreases-join+arg2
decreases-join+arg2 g l = 2 * (l.middle - l.low) + 1

abbrev pub decreases-join+arg3 : goal.decreases-join+arg3
decreases-join+arg3 g l = 2 * (l.high - l.middle) + 1
