use Rattle.std.{proofs.Common.{All, ap, arith, length, subst}, specs.Vec.Iter.into_iter_items}
use Rattle.net_core.proofs.Library.{All-tail}
use Rattle.line_maker.specs.inner.Candidates.{IsSumCandidate}
use Rattle.line_maker.proofs.rounds.lines_of.Goals as goal

pub loop-candidate-preserved : goal.loop-candidate-preserved
loop-candidate-preserved c =
    let rest = into_iter_items c.next.new.self in
    let step = c.in-Some.ensures.steps in
    let so_far = c.loop-candidate.invariant in
    let are = IsSumCandidate c.args.known.now.tested.now in (
      c.in_ok-push_new.ensures.lines,
      c.in_ok-push_new.ensures.few,
      All-tail are c.in-Some.candidate rest (subst (All are) step.0 so_far.2),
      omega (arith, step.1, so_far.3, ap length step.0),
    )
