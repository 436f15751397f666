use Rattle.text_kit.{specs.Terms.{TheEnd, no_fault}, proofs.Lemmas.list_turn}
use Rattle.session_script.{specs.ScriptReading.command_at, proofs.ScriptLaws.command_some}
use Rattle.session_script.proofs.reader.take_command.Goals as goal

pub returns-clause-turn : goal.returns-clause-turn
returns-clause-turn c =
    rw c.in_ok-push.ensures.ok (list_turn TheEnd no_fault (command_at c.args.places) (command_some c.args.places) c.args.all.now _ _ _ c.in_default.ensures (rw c.items.ensures at c.in_ok-command.ensures))

pub returns-clause-shorter : goal.returns-clause-shorter
returns-clause-shorter c more = command_some c.args.places c.args.all.now _ _ _ (rw c.items.ensures at c.in_ok-command.ensures)
