use Rattle.acceptance.proofs.Snapshots.{snapshot_plans_are_accepted}
use Rattle.acceptance.proofs.law.snapshot_plans_are_accepted.Goals as goal

pub returns : goal.returns
returns c = snapshot_plans_are_accepted
