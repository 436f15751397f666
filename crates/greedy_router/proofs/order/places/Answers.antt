use Rattle.std.proofs.Common.{arith, ap, sym, ◌∙◌, ◌++◌, ◌∷◌, []}
use Rattle.greedy_router.proofs.Falling.{range_more}
use Rattle.greedy_router.proofs.order.places.Goals as goal

pub loop-place-preserved : goal.loop-place-preserved
loop-place-preserved c =
    c.in_ok-push.ensures.items ∙ (ap (λ all. all ++ c.loop-place.place ∷ []) c.loop-place.invariant ∙ sym (range_more 0 c.loop-place.place c.loop-place.place (omega arith)))
