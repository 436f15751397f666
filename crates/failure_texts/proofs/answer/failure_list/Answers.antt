use Rattle.std.proofs.Common.{length, subst, sym}
use Rattle.failure_texts.{specs.Fates.AreFates, proofs.Alone.none_first, proofs.Spelling.failure_list_made}
use Rattle.failure_texts.proofs.answer.failure_list.Goals as goal

pub returns : goal.returns
returns c = failure_list_made c.args.net.now c.args.demands.now c.items.result.now c.in_ok-text.text
    (subst (AreFates c.args.net.now c.args.demands.now (length c.args.net.now.links)) (sym c.items.ensures) c.in_ok-fates.ensures)
    (none_first c.args.net.now c.args.demands.now c.in_ok-k.field-0 c.in_ok-k.ensures c.in_default.is)
    (c.in_ok-text.ensures.text, c.in_ok-text.ensures.spelled)
