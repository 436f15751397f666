use Rattle.std.proofs.Common.{◌≡◌, ◌++◌, ◌∙◌, ap, false, inl, inr, refl, subst, sym, true}
use Rattle.text_kit.proofs.Lemmas.{on_ok}
use Rattle.fault_texts.specs.Quotes.{note_text}
use Rattle.fault_messages.specs.ForeignReports.{begins_report}
use Rattle.fault_messages.proofs.foreign.put_report_header_note.Goals as goal

pub returns-then-begins_report : goal.returns-then-begins_report
returns-then-begins_report c =
    let is = subst (λ p. begins_report p c.args.bytes.now ≡ true) c.other_places.ensures (sym c.begins_report.ensures ∙ c.if-begins_report.true) in
    on_ok c.put_note.result (λ q. (_, inl (is, refl), q ∙ ap (λ w. c.args.text.now ++ note_text w) c.other_network.ensures)) c.put_note.ensures

pub returns-else-begins_report : goal.returns-else-begins_report
returns-else-begins_report c =
    let is = subst (λ p. begins_report p c.args.bytes.now ≡ false) c.other_places.ensures (sym c.begins_report.ensures ∙ c.if-begins_report.false) in
    on_ok c.put_header_note.result (λ q. (q.0, inr (is, q.1), q.2)) c.put_header_note.ensures
