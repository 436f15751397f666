use Rattle.std.proofs.Common.{◌+◌, arith}
use Rattle.report_checker.proofs.OnOneWalk.{all_accepted, first_told}
use Rattle.report_checker.proofs.outcomes_along.answer_of_all.Goals as goal

pub returns-in-None-clause-sound : goal.returns-in-None-clause-sound
returns-in-None-clause-sound c p r checked accepted = all_accepted p r c.args.checked checked c.in-None.is

pub returns-in-Some-clause-told : goal.returns-in-Some-clause-told
returns-in-Some-clause-told c p r checked = first_told p r c.args.checked c.in-Some.finding (c.args.checked.clean + 1) checked c.in-Some.is (omega arith)
