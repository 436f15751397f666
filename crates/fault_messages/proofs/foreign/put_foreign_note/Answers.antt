use Rattle.std.proofs.Common.{◌++◌, ◌∙◌, [], ap, inl, inr, refl, sym, append-nil}
use Rattle.text_kit.proofs.Lemmas.{on_ok}
use Rattle.fault_messages.specs.ForeignReports.{foreign_text}
use Rattle.fault_messages.proofs.foreign.put_foreign_note.Goals as goal

pub returns-in-Some : goal.returns-in-Some
returns-in-Some c = on_ok c.put_foreign.result (λ q. (_, inr (c.in-Some.word.now, c.in-Some.ensures, refl), q ∙ ap (λ k. c.args.text.now ++ foreign_text k) c.is_known.ensures)) c.put_foreign.ensures

pub returns-in-None : goal.returns-in-None
returns-in-None c = ([], inl (c.in-None.ensures, refl), sym (append-nil c.args.text.now))
