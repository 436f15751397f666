use Rattle.acceptance.proofs.Sound.{sound_plans_are_accepted}
use Rattle.acceptance.proofs.law.sound_plans_are_accepted.Goals as goal

pub returns : goal.returns
returns c = sound_plans_are_accepted
