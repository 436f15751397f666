use Rattle.std.proofs.Common.{◌*◌, ◌<◌, refl, arith}
use Rattle.net_core.proofs.Library.{false≢true}
use Rattle.plan_checker.proofs.Places.{holds_read, none_at_all, none_read}
use Rattle.plan_checker.proofs.sums.first_over.Goals as goal

pub loop-e-preserved : goal.loop-e-preserved
loop-e-preserved c = λ den n are.
    let nums = c.args.nums.now in
    let e = c.loop-e.e in
    none_read nums (λ j num. num * den < n j) e 0 c.loop-e-test.true (c.loop-e.invariant den n are)
    (λ more. false≢true ((c.if-exceeds.ensures den (n e) (are e _ (omega (arith, c.loop-e-test.true, c.requires.count)))).1 more))

pub returns-then-exceeds : goal.returns-then-exceeds
returns-then-exceeds c = λ den n are.
    let nums = c.args.nums.now in
    let e = c.loop-e.e in (
      holds_read nums (λ j num. num * den < n j) e 0 c.loop-e-test.true
          ((c.if-exceeds.ensures den (n e) (are e _ (omega (arith, c.loop-e-test.true, c.requires.count)))).0 refl),
      c.loop-e.invariant den n are,
    )

pub returns : goal.returns
returns c = λ den n are. none_at_all c.args.nums.now (λ j num. num * den < n j) c.loop-e.e c.loop-e-test.false (c.loop-e.invariant den n are)
