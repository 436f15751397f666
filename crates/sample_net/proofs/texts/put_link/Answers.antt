use Rattle.text_kit.proofs.Lemmas.{adds_then, on_ok}
use Rattle.sample_net.proofs.texts.put_link.Goals as goal

pub returns : goal.returns
returns c = on_ok _ (λ q. adds_then c.in_ok-put_name.ensures (adds_then c.in_ok-put_ends.ensures (adds_then c.in_ok-put_amount.ensures.amount (adds_then c.in_ok-put_amount-2.ensures.amount (adds_then c.in_ok-put_amount-3.ensures.amount (adds_then c.in_ok-put_amount-4.ensures.amount (adds_then c.in_ok-put_open.ensures (adds_then (rw c.items.ensures at c.in_ok-put_modules.ensures) q)))))))) c.put_close.ensures
