use Rattle.std.proofs.Common.{List, codes, ℕ}
use Rattle.model_reader.{specs.Terms.{model_word, model_of, SpellsModel}, specs.declared.model.Model.Model}
use Rattle.outside_io.specs.declared.status.Status.TheVariants.{BadModel}
use Rattle.fault_messages.specs.Terms.{model_message, AreModelNotes}
use Rattle.input_files.specs.Refusals.{refusal_line}
use Rattle.people_files.{specs.Messages.ShowsPlace, proofs.Causing.not_reading, proofs.Showing.{notes_at, reading_shown}}
use Rattle.people_files.proofs.inputs.model_of.Goals as goal

pub returns-in_ok-notes-in-Err-Bad-clause-refused : goal.returns-in_ok-notes-in-Err-Bad-clause-refused
returns-in_ok-notes-in-Err-Bad-clause-refused c =
    let bytes = c.args.bytes.now in
    let at = c.in-Err-Bad.at in
    let kind = c.in-Err-Bad.kind in
    reading_shown (λ (m : Model). m) SpellsModel model_of (codes "model") model_word model_message AreModelNotes BadModel c.args.name.now bytes c.in-Err-Bad.field-0 at kind
    c.model_sentence.result.wrong.now c.model_sentence.result.help.now c.items.result.now c.refused.result
    c.in-Err-Bad.field-0-is c.in-Err-Bad.ensures.only c.in-Err-Bad.ensures.exact c.model_sentence.ensures
    (notes_at AreModelNotes bytes at c.place_in.result kind c.in_ok-notes-in-Err-Bad.notes c.items.result.now c.place_in.ensures.value c.items.ensures c.in_ok-notes-in-Err-Bad.ensures)
    c.refused.ensures

pub returns-in_ok-notes-in-Err-Bad-clause-was_read : goal.returns-in_ok-notes-in-Err-Bad-clause-was_read
returns-in_ok-notes-in-Err-Bad-clause-was_read c =
    let at = c.in-Err-Bad.at in
    let words : List ℕ × List ℕ = (c.model_sentence.result.wrong.now, c.model_sentence.result.help.now) in
    not_reading BadModel (ShowsPlace c.args.name.now c.args.bytes.now at words c.items.result.now (refusal_line (codes "model") (model_word c.in-Err-Bad.kind) at)) c.refused.result
    (λ is. cc is) c.refused.ensures
