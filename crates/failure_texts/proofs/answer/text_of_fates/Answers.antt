use Rattle.std.proofs.Common.{◌∙◌}
use Rattle.failure_texts.{proofs.FateLists.fates_inside, proofs.Spelling.text_of_parts}
use Rattle.failure_texts.proofs.answer.text_of_fates.Goals as goal

pub put_states-requires : goal.put_states-requires
put_states-requires c = fates_inside c.args.net.now c.args.demands.now c.args.fates.now _ (c.items.ensures ∙ c.links.ensures) c.requires

pub returns-clause-text : goal.returns-clause-text
returns-clause-text c = (text_of_parts c.args.net.now c.args.demands.now c.args.fates.now _ _ _ _ _ _ c.requires
    (c.items.ensures ∙ c.links.ensures) (c.items-2.ensures ∙ c.links-2.ensures) c.items-3.ensures (rw (c.new-text.ensures) at c.in_ok-append.ensures.ok) c.in_ok-put_states.ensures c.in_ok-put_comments.ensures).0

pub returns-clause-spelled : goal.returns-clause-spelled
returns-clause-spelled c = (text_of_parts c.args.net.now c.args.demands.now c.args.fates.now _ _ _ _ _ _ c.requires
    (c.items.ensures ∙ c.links.ensures) (c.items-2.ensures ∙ c.links-2.ensures) c.items-3.ensures (rw (c.new-text.ensures) at c.in_ok-append.ensures.ok) c.in_ok-put_states.ensures c.in_ok-put_comments.ensures).1
