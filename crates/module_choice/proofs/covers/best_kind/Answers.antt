use Rattle.std.proofs.Common.{◌+◌, ◌<◌, arith, get_or, length, refl, subst, sym}
use Rattle.net_core.proofs.Library.{slice_get-get_or}
use Rattle.plan_terms.specs.Terms.{Module}
use Rattle.module_choice.{proofs.Choices.{IsBestSoFar, IsEnough, best_moves, best_of_all, best_stays}, proofs.covers.best_kind.Goals.{then-cost_of, else-cost_of}}
use Rattle.module_choice.proofs.covers.best_kind.Goals as goal

abbrev nothing : Module
nothing = record { capacity = 0; cost = 0 }

pub loop-at-preserved : goal.loop-at-preserved
loop-at-preserved c =
    let ms = c.args.modules.now in
    let k = c.loop-at.at in
    let old = c.loop-at.best in
    let new = c.if-cost_of.best in
    let best = c.loop-at.invariant.1 in
    let enough : IsEnough (get_or ms k nothing).capacity c.args.need c.count_for-count.result = record { enough = c.count_for-count.ensures.enough; least = c.count_for-count.ensures.least } in
    let at_is = slice_get-get_or ms old.at nothing c.loop-at.invariant.0 in
    let k_is = slice_get-get_or ms k nothing c.loop-at-test.true in
    elim c.if-cost_of.branch [
      | then-cost_of w ↦ subst (λ b. (b.at < length ms) × IsBestSoFar ms (k + 1) c.args.need b) (sym w.best-is) (c.loop-at-test.true, best_moves ms k c.args.need old (record { at = k; count = c.count_for-count.result }) _ _ at_is k_is best refl enough (omega (arith, w.if-cost_of)))
      | else-cost_of w ↦ subst (λ b. (b.at < length ms) × IsBestSoFar ms (k + 1) c.args.need b) (sym w.best-is) (c.loop-at.invariant.0, best_stays ms k c.args.need c.count_for-count.result old _ _ at_is k_is best enough (omega (arith, w.if-cost_of)))
    ]

pub returns-clause-best : goal.returns-clause-best
returns-clause-best c = best_of_all c.args.modules.now c.loop-at.at c.args.need c.loop-at.best c.loop-at-test.false c.loop-at.invariant.1
