use Rattle.std.proofs.Common.{if◌then◌else◌, sym, ap, arith}
use Rattle.plan_view.specs.Reroutes.{brought_beyond}
use Rattle.plan_view.proofs.rerouting.moved_last.Goals as goal

pub returns-then-goes_again-clause-value : goal.returns-then-goes_again-clause-value
returns-then-goes_again-clause-value c =
    omega (arith, ap (λ b. if b then 0 else brought_beyond c.args.normal.now c.args.routing.now c.args.f.now) (sym c.if-goes_again.ensures))

pub returns-else-goes_again-clause-value : goal.returns-else-goes_again-clause-value
returns-else-goes_again-clause-value c =
    omega (arith, ap (λ b. if b then 0 else brought_beyond c.args.normal.now c.args.routing.now c.args.f.now) (sym c.if-goes_again.ensures), c.moved_of.ensures.value)
