use Rattle.std.proofs.Common.{inl, inr, refl}
use Rattle.text_kit.proofs.Lemmas.{on_ok}
use Rattle.fault_texts.proofs.here.put_here.Goals as goal

pub returns-in-Some : goal.returns-in-Some
returns-in-Some c = on_ok c.put_word_here.result (λ q. (_, inl (c.in-Some.word.now, q.0, c.in-Some.ensures, q.1, refl), q.2)) c.put_word_here.ensures

pub returns-in-None : goal.returns-in-None
returns-in-None c = on_ok c.put_end.result (λ q. (_, inr (c.in-None.ensures, refl), q)) c.put_end.ensures
