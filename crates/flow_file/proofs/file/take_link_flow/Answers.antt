use Rattle.text_kit.{specs.Terms.{Parenthesis, no_fault}, proofs.Lemmas.list_turn}
use Rattle.report_words.specs.Terms.{known_in}
use Rattle.flow_file.{specs.FlowReading.link_flow_at, proofs.FlowsOnline.link_flow_some}
use Rattle.flow_file.proofs.file.take_link_flow.Goals as goal

pub returns-clause-turn : goal.returns-clause-turn
returns-clause-turn c =
    rw c.in_ok-push.ensures.ok (list_turn Parenthesis no_fault (link_flow_at (known_in c.args.context.now) c.args.demands.now.list.now) (link_flow_some (known_in c.args.context.now) c.args.demands.now.list.now) c.args.all.now _ _ _ c.in_default.ensures.1 (rw (c.in_default.ensures.0, c.items.ensures) at c.in_ok-flow.ensures))

pub returns-clause-shorter : goal.returns-clause-shorter
returns-clause-shorter c more = link_flow_some (known_in c.args.context.now) c.args.demands.now.list.now c.args.all.now _ _ _ (rw (c.in_default.ensures.0, c.items.ensures) at c.in_ok-flow.ensures)
