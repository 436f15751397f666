use Rattle.failure_texts.proofs.Alone.{found_first}
use Rattle.failure_texts.proofs.answer.apart.Goals as goal

pub returns : goal.returns
returns c = found_first c.args.net.now c.only_none-states.result c.args.demands.now c.in_ok-first_separated.field-0 c.in-Some.found c.only_none-states.ensures c.in_ok-first_separated.ensures c.in-Some.is
