use Rattle.session_run.proofs.Sofar.{RanSoFar}
use Rattle.session_run.proofs.one_caller.run_caller.Given as goal

-- the caller's commands so far have run
abbrev pub invariant-loop-command : goal.invariant-loop-command
invariant-loop-command g l = RanSoFar l.fn.caller l.caller l.setting.commands.now l.command-index l.outcomes.items
