use Rattle.text_kit.{specs.Terms.{Parenthesis, no_fault}, proofs.Lemmas.list_turn}
use Rattle.model_reader.{specs.FailuresReading.state_at, proofs.FailureLaws.state_some}
use Rattle.model_reader.proofs.failure_list.take_state.Goals as goal

pub returns-clause-turn : goal.returns-clause-turn
returns-clause-turn c =
    rw c.in_ok-push.ensures.ok (list_turn Parenthesis no_fault (state_at c.args.links.now) (state_some c.args.links.now) c.args.all.now _ _ _ c.in_default.ensures.1 (rw (c.in_default.ensures.0, c.items.ensures) at c.in_ok-state.ensures))

pub returns-clause-shorter : goal.returns-clause-shorter
returns-clause-shorter c more = state_some c.args.links.now c.args.all.now _ _ _ (rw (c.in_default.ensures.0, c.items.ensures) at c.in_ok-state.ensures)
