use Rattle.std.proofs.Common.{Err, List, ap, codes, ℕ}
use Rattle.outside_io.specs.declared.status.Status.TheVariants.{BadNetwork}
use Rattle.sndlib_reader.specs.Kinds.{kind_word}
use Rattle.fault_messages.specs.Notes.{AreNetworkNotes}
use Rattle.input_files.specs.Refusals.{refusal_line}
use Rattle.people_files.{specs.Messages.ShowsPlace, proofs.Causing.not_reading, proofs.Showing.{network_shown, notes_at}}
use Rattle.people_files.proofs.loaded_files.network_of.Goals as goal

pub returns-in_ok-notes-in-Err-Bad-clause-refused : goal.returns-in_ok-notes-in-Err-Bad-clause-refused
returns-in_ok-notes-in-Err-Bad-clause-refused c =
    let bytes = c.args.bytes.now in
    let at = c.in-Err-Bad.at in
    let kind = c.in-Err-Bad.kind in
    network_shown c.args.name.now bytes at kind c.network_sentence.result.wrong.now c.network_sentence.result.help.now c.items.result.now c.refused.result
    (c.in-Err-Bad.ensures.refused at kind (ap Err c.in-Err-Bad.field-0-is)) c.network_sentence.ensures
    (notes_at AreNetworkNotes bytes at c.place_in.result kind c.in_ok-notes-in-Err-Bad.notes c.items.result.now c.place_in.ensures.value c.items.ensures c.in_ok-notes-in-Err-Bad.ensures)
    c.refused.ensures

pub returns-in_ok-notes-in-Err-Bad-clause-was_read : goal.returns-in_ok-notes-in-Err-Bad-clause-was_read
returns-in_ok-notes-in-Err-Bad-clause-was_read c =
    let at = c.in-Err-Bad.at in
    let words : List ℕ × List ℕ = (c.network_sentence.result.wrong.now, c.network_sentence.result.help.now) in
    not_reading BadNetwork (ShowsPlace c.args.name.now c.args.bytes.now at words c.items.result.now (refusal_line (codes "network") (kind_word c.in-Err-Bad.kind) at)) c.refused.result
    (λ is. cc is) c.refused.ensures
