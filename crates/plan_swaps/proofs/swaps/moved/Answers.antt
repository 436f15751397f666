use Rattle.std.proofs.Common.{List, ℕ, subst, sym}
use Rattle.trim_plan.{specs.Trimmed.AreAtMost, proofs.AtMost.{one_less_at_most, shape_at_most}}
use Rattle.plan_swaps.proofs.swaps.moved.Goals as goal

pub one_more-requires : goal.one_more-requires
one_more-requires c =
    let counts = c.args.counts.now in
    let le = subst (λ (l : List (List ℕ)). AreAtMost l counts) (sym c.in_ok-lower.ensures) (one_less_at_most counts c.args.what.off.link c.args.what.off.«module») in
    shape_at_most c.args.instance.now.net.now.links c.in_ok-lower.lower counts le c.requires.shape
