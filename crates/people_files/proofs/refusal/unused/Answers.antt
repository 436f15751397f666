use Rattle.std.proofs.Common.{◌≡◌, ◌++◌, refl}
use Rattle.outside_io.specs.declared.status.Status.TheVariants.{BadFailures}
use Rattle.input_files.specs.Refusals.{unused_line}
use Rattle.people_files.{specs.Messages.unused_words, proofs.Causing.told_so}
use Rattle.people_files.proofs.refusal.unused.Goals as goal

pub returns : goal.returns
returns c =
    let text = unused_words c.args.name.now ++ unused_line in
    told_so BadFailures (λ m. m ≡ text) (λ s message. (s ≡ BadFailures) × (message ≡ text)) c.unused_text.result c.told.result c.unused_text.ensures c.told.ensures (λ m is. (refl, is))
