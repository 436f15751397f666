use Rattle.std.proofs.Common.{◌≢◌, ◌*◌, refl, arith}
use Rattle.net_core.proofs.Library.{false≢true}
use Rattle.plan_terms.specs.Terms.{Demand}
use Rattle.plan_checker.proofs.Places.{holds_read, none_at_all, none_read}
use Rattle.plan_checker.proofs.sums.first_other.Goals as goal

pub loop-k-preserved : goal.loop-k-preserved
loop-k-preserved c = λ den n are.
    none_read c.args.demands.now (λ j (d : Demand). n j ≢ d.need * c.args.scale * den) c.loop-k.k c.index-demands-k.result c.loop-k-test.true (c.loop-k.invariant den n are)
    (λ other. other ((c.if-not-is.ensures den (n c.loop-k.k) (are c.loop-k.k _ (omega (arith, c.loop-k-test.true, c.requires.count)))).0 refl))

pub returns-then-not-is : goal.returns-then-not-is
returns-then-not-is c = λ den n are. (
  holds_read c.args.demands.now (λ j (d : Demand). n j ≢ d.need * c.args.scale * den) c.loop-k.k c.index-demands-k.result c.loop-k-test.true
      (λ same. false≢true ((c.if-not-is.ensures den (n c.loop-k.k) (are c.loop-k.k _ (omega (arith, c.loop-k-test.true, c.requires.count)))).1 same)),
  c.loop-k.invariant den n are,
)

pub returns : goal.returns
returns c = λ den n are. none_at_all c.args.demands.now (λ j (d : Demand). n j ≢ d.need * c.args.scale * den) c.loop-k.k c.loop-k-test.false (c.loop-k.invariant den n are)
