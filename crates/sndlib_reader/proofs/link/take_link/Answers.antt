use Rattle.text_kit.{specs.Terms.{Parenthesis, no_fault}, proofs.Lemmas.list_turn}
use Rattle.sndlib_reader.{specs.Reading.native_link_at, proofs.Online.link_some}
use Rattle.sndlib_reader.proofs.link.take_link.Goals as goal

pub returns-clause-turn : goal.returns-clause-turn
returns-clause-turn c =
    rw c.in_ok-push.ensures.ok (list_turn Parenthesis no_fault (native_link_at c.args.places c.args.nodes.now) (link_some c.args.places c.args.nodes.now) c.args.all.now _ _ _ c.in_default.ensures.1 (rw (c.in_default.ensures.0, c.items.ensures) at c.in_ok-link.ensures.reads))

pub returns-clause-shorter : goal.returns-clause-shorter
returns-clause-shorter c more = (link_some c.args.places c.args.nodes.now) c.args.all.now _ _ _ (rw (c.in_default.ensures.0, c.items.ensures) at c.in_ok-link.ensures.reads)
