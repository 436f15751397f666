use Rattle.std.proofs.Common.{[], inl, inr, refl, sym, append-nil}
use Rattle.text_kit.proofs.Lemmas.{on_ok}
use Rattle.fault_messages.proofs.near.put_near_note.Goals as goal

pub returns-in-Some : goal.returns-in-Some
returns-in-Some c = on_ok c.put_other_note.result (λ q. (q.0, inr (c.in-Some.word.now, c.in-Some.ensures, q.1), q.2)) c.put_other_note.ensures

pub returns-in-None : goal.returns-in-None
returns-in-None c = ([], inl (c.in-None.ensures, refl), sym (append-nil c.args.text.now))
