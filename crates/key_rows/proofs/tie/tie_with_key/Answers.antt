use Rattle.std.proofs.Common.{◌≡◌, length, to_z, of_z, sym, ap, ◌∙◌, subst, arith}
use Rattle.net_core.proofs.Library.{w128, ints}
use Rattle.key_rows.{specs.inner.Candidates.IsLowered, proofs.Stepping.decided}
use Rattle.key_rows.proofs.tie.tie_with_key.Goals as goal

pub returns-clause-tie : goal.returns-clause-tie
returns-clause-tie c =
    let b = c.args.entrant.now.keyed.now in
    let name = c.args.entrant.now.name.now in
    let key = c.args.entrant.now.key.now in
    let x = c.args.x.now in
    let best = c.args.best.now in
    let p = c.in_ok-here.here in
    let q = c.in_ok-there.there in
    let back_p : to_z w128 (of_z w128 p) ≡ p = omega (arith, ints, c.positive_step-2.type_inv) in
    let back_q : to_z w128 (of_z w128 q) ≡ q = omega (arith, ints, c.positive_step.type_inv) in
    let kept : c.nums-2.result.now ≡ c.positive_step.new.room.spare.nums = c.nums-2.ensures ∙ ap (λ r. r.nums) (c.in_ok-here.ensures.other ∙ c.swap.ensures.y_after) in
    let first = subst (λ z. IsLowered b name key x z (to_z w128 (of_z w128 p))) (sym c.nums.ensures) (subst (λ z. IsLowered b name key x c.positive_step-2.new.room.spare.nums z) (sym back_p) c.in_ok-here.ensures.lowered) in
    let second = subst (λ z. IsLowered b name key best z (to_z w128 (of_z w128 q))) (sym kept) (subst (λ z. IsLowered b name key best c.positive_step.new.room.spare.nums z) (sym back_q) c.in_ok-there.ensures.lowered) in
    decided b name key x best c.nums.result.now c.nums-2.result.now (to_z w128 (of_z w128 p)) (to_z w128 (of_z w128 q)) (length c.nums.result.now) (ap length c.nums.ensures ∙ c.in_ok-here.ensures.room.spare)
    first second c.tie_first.result c.tie_first.ensures.yes c.tie_first.ensures.no
