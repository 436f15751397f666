use Rattle.std.proofs.Common.{List, codes, subst, ◌∙◌, ℕ}
use Rattle.model_reader.specs.Terms.{SpellsFailures, failures_of, failures_word}
use Rattle.plan_terms.specs.Terms.{Link, States}
use Rattle.outside_io.specs.declared.status.Status.TheVariants.{BadFailures}
use Rattle.fault_messages.specs.Terms.{failures_message, AreFailuresNotes}
use Rattle.input_files.specs.Refusals.{refusal_line}
use Rattle.people_files.{specs.Messages.ShowsPlace, proofs.Causing.not_reading, proofs.Showing.{notes_at, reading_shown}}
use Rattle.people_files.proofs.inputs.states_of.Goals as goal

pub returns-in_ok-notes-in-Err-Bad-clause-refused : goal.returns-in_ok-notes-in-Err-Bad-clause-refused
returns-in_ok-notes-in-Err-Bad-clause-refused c =
    let links = c.args.net.now.links in
    let bytes = c.args.bytes.now in
    let at = c.in-Err-Bad.at in
    let kind = c.in-Err-Bad.kind in
    let made = subst (λ (ls : List Link). AreFailuresNotes ls bytes c.place_in.result kind c.in_ok-notes-in-Err-Bad.notes) (c.items.ensures ∙ c.links.ensures) c.in_ok-notes-in-Err-Bad.ensures in
    reading_shown (λ (states : States). states.listed) (SpellsFailures links) (failures_of links) (codes "failures") failures_word failures_message (AreFailuresNotes links) BadFailures
    c.args.name.now bytes c.in-Err-Bad.field-0 at kind c.failures_sentence.result.wrong.now c.failures_sentence.result.help.now c.items-in-Err-Bad.result.now c.refused.result
    c.in-Err-Bad.field-0-is c.in-Err-Bad.ensures.only c.in-Err-Bad.ensures.exact c.failures_sentence.ensures
    (notes_at (AreFailuresNotes links) bytes at c.place_in.result kind c.in_ok-notes-in-Err-Bad.notes c.items-in-Err-Bad.result.now c.place_in.ensures.value c.items-in-Err-Bad.ensures made)
    c.refused.ensures

pub returns-in_ok-notes-in-Err-Bad-clause-was_read : goal.returns-in_ok-notes-in-Err-Bad-clause-was_read
returns-in_ok-notes-in-Err-Bad-clause-was_read c =
    let at = c.in-Err-Bad.at in
    let words : List ℕ × List ℕ = (c.failures_sentence.result.wrong.now, c.failures_sentence.result.help.now) in
    not_reading BadFailures (ShowsPlace c.args.name.now c.args.bytes.now at words c.items-in-Err-Bad.result.now (refusal_line (codes "failures") (failures_word c.in-Err-Bad.kind) at)) c.refused.result
    (λ is. cc is) c.refused.ensures
