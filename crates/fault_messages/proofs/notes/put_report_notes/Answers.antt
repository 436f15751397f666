use Rattle.text_kit.proofs.Lemmas.{on_ok}
use Rattle.fault_messages.proofs.NotesByKind.{header_put, none_put, word_put}
use Rattle.fault_messages.proofs.notes.put_report_notes.Goals as goal

pub returns-in-Header : goal.returns-in-Header
returns-in-Header c =
    let put = rw c.places.ensures at c.put_report_header_note.ensures in
    on_ok c.put_report_header_note.result (header_put c.args.text.now c.in-Header.is (λ e. cc e)) put

pub returns-in-UnknownName : goal.returns-in-UnknownName
returns-in-UnknownName c = on_ok c.put_foreign_note.result (word_put c.args.text.now c.in-UnknownName.is (λ e. cc e)) c.put_foreign_note.ensures

pub returns-in_default : goal.returns-in_default
returns-in_default c = none_put c.args.text.now c.in_default.not-Header c.in_default.not-UnknownName
