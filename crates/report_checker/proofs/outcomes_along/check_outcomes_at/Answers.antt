use Rattle.std.proofs.Common.{arith}
use Rattle.plan_terms.specs.Terms.{case_of}
use Rattle.report_checker.proofs.OnOneWalk.{sound_more}
use Rattle.report_checker.proofs.outcomes_along.check_outcomes_at.Goals as goal

pub loop-j-preserved : goal.loop-j-preserved
loop-j-preserved c =
    sound_more (case_of c.args.instance.now) c.args.report.now c.args.place c.loop-j.j c.index-outcomes-j.result (rw c.items-outcomes.ensures at c.index-outcomes-j.is)
    (λ i o lt at within. c.requires.checked.clean i o (omega (arith, lt, c.loop-j-test.true)) at within) c.loop-j.invariant c.in-Ok.ensures.sound
