use Rattle.text_kit.proofs.Lemmas.{adds_then, on_ok}
use Rattle.sample_net.proofs.texts.put_network.Goals as goal

pub returns : goal.returns
returns c = on_ok _ (λ q. adds_then c.in_ok-put_nodes.ensures (adds_then c.in_ok-put_links.ensures q)) c.put_demands.ensures
