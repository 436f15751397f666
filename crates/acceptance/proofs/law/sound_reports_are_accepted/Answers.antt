use Rattle.acceptance.proofs.Reports.{sound_reports_are_accepted}
use Rattle.acceptance.proofs.law.sound_reports_are_accepted.Goals as goal

pub returns : goal.returns
returns c = sound_reports_are_accepted
