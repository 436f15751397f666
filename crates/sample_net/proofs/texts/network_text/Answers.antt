use Rattle.std.proofs.Common.{◌∙◌}
use Rattle.sample_net.proofs.Spelling.{text_of_parts}
use Rattle.sample_net.proofs.texts.network_text.Goals as goal

pub returns-clause-spelled : goal.returns-clause-spelled
returns-clause-spelled c =
    text_of_parts c.args.net.now c.args.demands.now _ _ _ _ _ c.requires.places c.requires.notes c.requires.demands (c.items.ensures ∙ c.nodes.ensures) (c.items-2.ensures ∙ c.links.ensures) c.items-3.ensures
    (rw (c.new-text.ensures) at c.in_ok-append.ensures.ok) c.in_ok-put_network.ensures
