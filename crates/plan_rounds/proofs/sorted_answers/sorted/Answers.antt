use Rattle.std.proofs.Common.{refl}
use Rattle.plan_rounds.proofs.sorted_answers.sorted.Goals as goal

pub put_answers-requires : goal.put_answers-requires
put_answers-requires c = rw (c.new.ensures, c.new-2.ensures, c.new-3.ensures) refl
