use Rattle.text_kit.{specs.Terms.TheEnd, proofs.Lemmas.list_turn}
use Rattle.model_reader.{specs.ModelReading.{missing, setting_at}, proofs.ModelLaws.setting_some}
use Rattle.model_reader.proofs.model_file.take_setting.Goals as goal

pub returns-clause-turn : goal.returns-clause-turn
returns-clause-turn c =
    rw c.in_ok-push.ensures.ok (list_turn TheEnd missing setting_at setting_some c.args.all.now _ _ _ c.in_default.ensures (rw c.items-2.ensures at c.in_ok-setting.ensures))

pub returns-clause-shorter : goal.returns-clause-shorter
returns-clause-shorter c more = setting_some c.args.all.now _ _ _ (rw c.items-2.ensures at c.in_ok-setting.ensures)
