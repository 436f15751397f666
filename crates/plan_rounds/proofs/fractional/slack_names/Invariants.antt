use Rattle.plan_rounds.specs.inner.Sharing.{AreSlackNames}
use Rattle.plan_rounds.proofs.fractional.slack_names.Given as goal

-- the names so far
abbrev pub invariant-loop-row : goal.invariant-loop-row
invariant-loop-row l = AreSlackNames l.links l.row l.names
