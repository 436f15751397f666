use Rattle.text_kit.{specs.Terms.{Parenthesis, no_fault}, proofs.Lemmas.list_turn}
use Rattle.report_parts.{specs.ReadingParts.plan_demand_at, proofs.PartsOnline.plan_demand_some}
use Rattle.report_parts.proofs.demands.take_demand.Goals as goal

pub returns-clause-turn : goal.returns-clause-turn
returns-clause-turn c =
    rw c.in_ok-push.ensures.ok (list_turn Parenthesis no_fault (plan_demand_at c.args.context.now.net.now.places c.args.context.now.net.now.nodes) (plan_demand_some c.args.context.now.net.now.places c.args.context.now.net.now.nodes) c.args.all.now _ _ _ c.in_default.ensures.1 (rw (c.in_default.ensures.0, c.items.ensures) at c.in_ok-demand.ensures.reads))

pub returns-clause-shorter : goal.returns-clause-shorter
returns-clause-shorter c more = plan_demand_some c.args.context.now.net.now.places c.args.context.now.net.now.nodes c.args.all.now _ _ _ (rw (c.in_default.ensures.0, c.items.ensures) at c.in_ok-demand.ensures.reads)
