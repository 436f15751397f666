use Rattle.std.proofs.Common.{arith}
use Rattle.box_program.proofs.Candidates.{finds_all}
use Rattle.box_program.proofs.program.best_candidate.Goals as goal

pub returns : goal.returns
returns c = finds_all c.args.columns.now c.args.duals.now c.loop-at.at c.loop-at.best (omega (arith, c.loop-at-test.false)) c.loop-at.invariant
