-- numbers of sums of lines, as the crate below has them
use Rattle.std.proofs.Common.{◌≡◌, ◌≢◌, ℕ, ◌+◌, ◌/◌, ◌%◌, ◌<◌, ◌≤◌, ⊎_elim, List, min, subst, sym, arith}
use Rattle.net_core.proofs.Library.{cases_eq}
use Rattle.plan_terms.specs.Terms.{Link}
use Rattle.line_check.{specs.Terms.{module_number, divided_up, Multiplier}, specs.declared.tested_lines.Tested.Tested, proofs.DividedLines.up_is}
use Rattle.line_maker.specs.inner.Candidates.{IsNarrowLink}

-- a quotient that is rounded up where a rest is left
pub rounded_is : (n d : ℕ) → 1 ≤ d → n / d + min 1 (n % d) ≡ divided_up n d
rounded_is n d positive = up_is n d positive

-- a link more whose modules give no more than the limit
pub narrow_more : (links : List Link) (tested : List Tested) (terms : List Multiplier) (e modules : ℕ) → modules ≡ module_number links e
    → ((k : ℕ) → k < e → IsNarrowLink tested terms k (module_number links k)) → IsNarrowLink tested terms e modules
    → (k : ℕ) → k < e + 1 → IsNarrowLink tested terms k (module_number links k)
narrow_more links tested terms e modules same so_far next k lt = ⊎_elim
    (λ (is : k ≡ e). subst (λ i. IsNarrowLink tested terms i (module_number links i)) (sym is) (subst (IsNarrowLink tested terms e) same next))
    (λ (other : k ≢ e). so_far k (omega (arith, lt, other)))
    (cases_eq k e)
