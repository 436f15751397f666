-- no counts of an emptied box meet the line that empties it
use Rattle.std.proofs.Common.{◌≡◌, ◌≢◌, ℕ, ◌*◌, ◌≤◌, Option, None, Some, IfSome, IsSome, unwrap_or, ⊎_elim, arith, mul-le-mul_left}
use Rattle.net_core.proofs.Library.{cases_eq}
use Rattle.line_check.{specs.Inequalities.entry, proofs.OverModules.over-le}
use Rattle.tree_check.{specs.Boxes.span_at, specs.Laws.EmptiedHasNone, proofs.InBoxes.count_in_span}

-- a count is at most the greatest one
pub at_most : (most : Option ℕ) (n : ℕ) → IsSome most → IfSome most (λ t. n ≤ t) → n ≤ unwrap_or most 0
at_most None n some le = absurd (cc some)
at_most (Some t) n some le = le

along_most : (coef n : ℕ) (most : Option ℕ) → (coef ≢ 0 → IsSome most) → IfSome most (λ t. n ≤ t) → coef * n ≤ coef * unwrap_or most 0
along_most coef n most some le = ⊎_elim
    (λ (none : coef ≡ 0). rw none (omega arith))
    (λ (positive : coef ≢ 0). mul-le-mul_left coef (at_most most n (some positive) le))
    (cases_eq coef 0)

pub emptied_has_none : EmptiedHasNone
emptied_has_none links box line counts empty shape within met =
    let most = over-le links (λ e m. entry line.coefs e m * entry counts e m) (λ e m. entry line.coefs e m * unwrap_or (span_at box e m).most 0)
    (λ e m le lm. along_most (entry line.coefs e m) (entry counts e m) (span_at box e m).most (empty.bounded e m le lm) (count_in_span links box counts e m shape within lm).1) in
    omega (arith, met, most, empty.short)
