use Rattle.std.proofs.Common.{arith, subst, sym}
use Rattle.plan_terms.specs.Terms.{case_of}
use Rattle.failure_texts.{specs.inner.SeparationsSoFar.AreSeparationsBefore, proofs.Growing.{all_found, none_before}}
use Rattle.failure_texts.proofs.separation_list.separations.Goals as goal

pub loop-s-init : goal.loop-s-init
loop-s-init c = subst (AreSeparationsBefore (case_of c.args.instance.now) 0 0) (sym c.new-found.ensures) (none_before (case_of c.args.instance.now))

pub returns : goal.returns
returns c = all_found (case_of c.args.instance.now) c.loop-s.s c.loop-s.found (omega (arith, c.loop-s-test.false)) c.loop-s.invariant
