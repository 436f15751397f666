use Rattle.std.{proofs.Common.{◌≡◌, ◌∙◌, ◌*◌, ◌≤◌, ◌<◌, ◌⊎◌, inl, inr, ⊎_elim, ap, arith}, proofs.lemmas.Grind.div_ceil_times}
use Rattle.net_core.proofs.Library.{cases_lt}
use Rattle.tree_boxes.proofs.lowered_counts.needed.Goals as goal

pub returns-clause-room : goal.returns-clause-room
returns-clause-room c =
    let times = div_ceil_times c.args.missing c.args.capacity c.requires in
    ⊎_elim
    (λ (lt : c.args.count < c.div_ceil.result). inl (omega (arith, c.min.ensures, lt)))
    (λ (le : c.div_ceil.result ≤ c.args.count).
    let same : c.min.result ≡ c.div_ceil.result = omega (arith, c.min.ensures, le) in
    inr (omega (arith, times.0, ap (λ k. c.args.capacity * k) (same ∙ c.div_ceil.ensures))))
    (cases_lt c.args.count c.div_ceil.result)
