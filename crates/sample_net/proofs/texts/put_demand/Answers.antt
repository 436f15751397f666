use Rattle.text_kit.proofs.Lemmas.{adds_then, on_ok}
use Rattle.sample_net.proofs.texts.put_demand.Goals as goal

pub returns : goal.returns
returns c = on_ok _ (λ q. adds_then c.in_ok-put_name.ensures (adds_then c.in_ok-put_ends.ensures (adds_then c.in_ok-put_keyword.ensures (adds_then c.in_ok-put_amount.ensures.word q)))) c.put_keyword-2.ensures
