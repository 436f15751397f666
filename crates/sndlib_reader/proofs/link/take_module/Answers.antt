use Rattle.text_kit.{specs.Terms.Parenthesis, proofs.Lemmas.list_turn}
use Rattle.sndlib_reader.{specs.Reading.{module_at, unserved}, proofs.Online.module_some}
use Rattle.sndlib_reader.proofs.link.take_module.Goals as goal

pub returns-clause-turn : goal.returns-clause-turn
returns-clause-turn c =
    rw c.in_ok-push.ensures.ok (list_turn Parenthesis (unserved c.args.fixed) (module_at c.args.places) (module_some c.args.places) c.args.all.now _ _ _ c.in_default.ensures.1 (rw (c.in_default.ensures.0, c.items.ensures) at c.in_ok-module.ensures))

pub returns-clause-shorter : goal.returns-clause-shorter
returns-clause-shorter c more = module_some c.args.places c.args.all.now _ _ _ (rw (c.in_default.ensures.0, c.items.ensures) at c.in_ok-module.ensures)
