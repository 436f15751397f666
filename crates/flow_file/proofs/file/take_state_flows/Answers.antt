use Rattle.std.proofs.Common.{◌+◌, length}
use Rattle.text_kit.{specs.Terms.{Parenthesis, of_length}, proofs.Lemmas.list_turn}
use Rattle.report_words.specs.Terms.{known_in}
use Rattle.flow_file.{specs.declared.fault.FlowsKind.TheVariants.Limit, specs.FlowReading.state_flows_at, proofs.FlowsOnline.state_flows_some}
use Rattle.flow_file.proofs.file.take_state_flows.Goals as goal

pub returns-clause-turn : goal.returns-clause-turn
returns-clause-turn c =
    rw c.in_ok-push.ensures.ok (list_turn Parenthesis (of_length (length c.args.context.now.states.now.listed + 1) Limit) (state_flows_at (known_in c.args.context.now) c.args.demands.now.list.now) (state_flows_some (known_in c.args.context.now) c.args.demands.now.list.now) c.args.all.now _ _ _ c.in_default.ensures.1 (rw (c.in_default.ensures.0, c.items-2.ensures) at c.in_ok-flows.ensures))

pub returns-clause-shorter : goal.returns-clause-shorter
returns-clause-shorter c more = state_flows_some (known_in c.args.context.now) c.args.demands.now.list.now c.args.all.now _ _ _ (rw (c.in_default.ensures.0, c.items-2.ensures) at c.in_ok-flows.ensures)
