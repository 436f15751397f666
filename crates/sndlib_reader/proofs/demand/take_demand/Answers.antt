use Rattle.text_kit.{specs.Terms.{Parenthesis, no_fault}, proofs.Lemmas.list_turn}
use Rattle.sndlib_reader.{specs.Reading.native_demand_at, proofs.Online.demand_some}
use Rattle.sndlib_reader.proofs.demand.take_demand.Goals as goal

pub returns-clause-turn : goal.returns-clause-turn
returns-clause-turn c =
    rw c.in_ok-push.ensures.ok (list_turn Parenthesis no_fault (native_demand_at c.args.places c.args.nodes.now) (demand_some c.args.places c.args.nodes.now) c.args.all.now _ _ _ c.in_default.ensures.1 (rw (c.in_default.ensures.0, c.items.ensures) at c.in_ok-demand.ensures.reads))

pub returns-clause-shorter : goal.returns-clause-shorter
returns-clause-shorter c more = (demand_some c.args.places c.args.nodes.now) c.args.all.now _ _ _ (rw (c.in_default.ensures.0, c.items.ensures) at c.in_ok-demand.ensures.reads)
