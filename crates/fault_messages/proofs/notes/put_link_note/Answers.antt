use Rattle.std.proofs.Common.{◌∙◌, subst}
use Rattle.text_kit.proofs.Lemmas.{on_ok}
use Rattle.fault_messages.specs.NearNames.{IsWordNote}
use Rattle.fault_messages.proofs.notes.put_link_note.Goals as goal

pub returns : goal.returns
returns c =
    on_ok c.put_word_note.result
    (λ q. (q.0, subst (λ ns. IsWordNote ns c.args.bytes.now c.args.at q.0) (c.items.ensures ∙ c.in_ok-names.ensures) q.1, q.2)) c.put_word_note.ensures
