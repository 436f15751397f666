use Rattle.net_core.proofs.Library.{IfOk-weaker}
use Rattle.command_answers.proofs.import.answer_instance.Goals as goal

pub answer_ending-requires : goal.answer_ending-requires
answer_ending-requires g c = (c.args.file, c.in_ok-ending.ensures)

pub returns : goal.returns
returns g c = IfOk-weaker c.answer_ending.result _ _ (λ a ends. ends c.args.file c.in_ok-ending.ensures) c.answer_ending.ensures
