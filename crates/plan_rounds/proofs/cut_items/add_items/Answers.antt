use Rattle.std.{proofs.Common.{◌∙◌, ◌++◌, ◌∷◌, [], ap, arith, length, sym, append-nil, append_assoc}, specs.Vec.Iter.into_iter_items}
use Rattle.plan_rounds.proofs.Multiplying.{none_left}
use Rattle.plan_rounds.proofs.cut_items.add_items.Goals as goal

pub loop-item-preserved : goal.loop-item-preserved
loop-item-preserved g c =
    let into = c.loop-item.into in
    let x = c.in-Some.item in
    let rest = into_iter_items c.next.new.self in
    let step = c.in-Some.ensures.steps in (
      rw c.in_ok-push.ensures.ok (append_assoc into (x ∷ []) rest ∙ (ap (λ xs. into ++ xs) (sym step.0) ∙ c.loop-item.invariant.0)),
      omega (arith, step.1, c.loop-item.invariant.1, ap length step.0),
    )

pub returns : goal.returns
returns g c = let none = none_left (into_iter_items c.loop-item.item-iterator) (sym c.loop-item.invariant.1 ∙ c.in-None.ensures.steps.0) in sym (append-nil c.loop-item.into) ∙ (ap (λ xs. c.loop-item.into ++ xs) (sym none) ∙ c.loop-item.invariant.0)
