use Rattle.std.proofs.Common.{◌≡◌, ℕ, List, refl}
use Rattle.input_files.specs.Refusals.{refusal_line}
use Rattle.people_files.{specs.Messages.ShowsPlace, proofs.Causing.told_so}
use Rattle.people_files.proofs.refusal.refused.Goals as goal

pub returns : goal.returns
returns g c =
    let file = c.args.file.now in
    let words : List ℕ × List ℕ = (c.args.sentence.wrong.now, c.args.sentence.help.now) in
    let line = refusal_line file.file.now (g.W.FaultWord.word c.args.kind.now) file.at in
    let notes = c.args.notes.now in
    told_so file.status (ShowsPlace file.name.now file.bytes.now file.at words notes line)
    (λ s message. (s ≡ file.status) × ShowsPlace file.name.now file.bytes.now file.at words notes line message)
    c.refused_text.result c.told.result c.refused_text.ensures c.told.ensures (λ m shown. (refl, shown))
