use Rattle.text_kit.proofs.Lemmas.{adds_then, on_ok}
use Rattle.failure_texts.proofs.states.put_failure.Goals as goal

pub returns : goal.returns
returns c = on_ok _ (λ q. adds_then c.in_ok-put_name.ensures (adds_then c.in_ok-put_open.ensures (adds_then c.in_ok-put_name-2.ensures q))) c.put_close.ensures
