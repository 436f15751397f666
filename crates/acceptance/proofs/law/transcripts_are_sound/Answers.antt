use Rattle.acceptance.proofs.Transcripts.{transcripts_are_sound}
use Rattle.acceptance.proofs.law.transcripts_are_sound.Goals as goal

pub returns : goal.returns
returns c = transcripts_are_sound
