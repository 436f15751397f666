use Rattle.std.proofs.Common.{refl}
use Rattle.people_plans.proofs.free.free_answer.Goals as goal

pub returns : goal.returns
returns c = (refl, c.new.ensures, c.in_ok-message.ensures)
