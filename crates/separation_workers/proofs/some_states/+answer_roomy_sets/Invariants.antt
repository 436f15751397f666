use Rattle.std.proofs.Common.{◌-◌}
use Rattle.separation_workers.proofs.some_states.+answer_roomy_sets.Given as goal

-- the levels that are left
abbrev pub decreases-answer_roomy_sets : goal.decreases-answer_roomy_sets
decreases-answer_roomy_sets g l = 5 - l.level.now
