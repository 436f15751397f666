use Rattle.std.proofs.Common.{[], inl, inr, refl, sym, append-nil}
use Rattle.text_kit.proofs.Lemmas.{on_ok}
use Rattle.fault_messages.proofs.header.put_header_note.Goals as goal

pub returns-in-Some : goal.returns-in-Some
returns-in-Some c = on_ok c.put_note.result (λ q. (_, inr (c.in-Some.words.now, c.in-Some.ensures, refl), q)) c.put_note.ensures

pub returns-in-None : goal.returns-in-None
returns-in-None c = ([], inl (c.in-None.ensures, refl), sym (append-nil c.args.text.now))
