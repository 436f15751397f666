use Rattle.std.proofs.Common.{take, subst, ◌+◌, ◌*◌, take_all}
use Rattle.plan_terms.specs.Terms.{LinkId}
use Rattle.module_choice.specs.inner.Routes.{times}
use Rattle.plan_checker.{specs.inner.Mixed.AreMixed, proofs.FlowSums.{mixed_same, times_more}}
use Rattle.plan_checker.proofs.sums.add_path.Goals as goal

abbrev first_link : LinkId
first_link = record { 0 = 0 }

pub loop-e-preserved : goal.loop-e-preserved
loop-e-preserved c = record {
  each = c.add_at.ensures.each;
  sum = λ n m old by. mixed_same _ _ _ _ (λ e. times_more c.args.path.now c.loop-e.e-index first_link e (n e) m c.loop-e-test.true) (c.add_at.ensures.sum (λ e. n e + m * times e (take c.loop-e.e-index c.args.path.now)) m (c.loop-e.invariant.sum n m old by) by);
}

pub returns-clause-sum : goal.returns-clause-sum
returns-clause-sum c = λ n m old by. subst (λ path. AreMixed c.args.den (λ e. n e + m * times e path) c.loop-e.sums) (take_all c.loop-e.e-index c.args.path.now c.loop-e-test.false) (c.loop-e.invariant.sum n m old by)
