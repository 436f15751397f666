use Rattle.std.proofs.Common.{sym}
use Rattle.net_core.proofs.Library.{mul-div_cancel', positive_divisor}
use Rattle.module_choice.proofs.Steps.{quotient_sound}
use Rattle.module_choice.proofs.tables.in_steps.Goals as goal

pub nonzero_div-result : goal.nonzero_div-result
nonzero_div-result c = positive_divisor c.args.step c.args.m.now.capacity c.requires.sound.carries c.requires.divides

pub returns-clause-capacity : goal.returns-clause-capacity
returns-clause-capacity c = sym (mul-div_cancel' c.args.step c.requires.divides)

pub returns-clause-sound : goal.returns-clause-sound
returns-clause-sound c = quotient_sound c.args.m.now c.args.step c.requires.sound c.requires.divides
