-- numbers that divide others
use Rattle.std.proofs.Common.{◌≡◌, ◌≢◌, ℕ, ◌+◌, ◌<◌, ⊎_elim, List, subst, sym, ap, ◌∙◌, arith}
use Rattle.net_core.proofs.Library.{cases_eq, dvd_trans, IsGcd, ◌∣◌}
use Rattle.plan_terms.specs.Terms.{Link}
use Rattle.line_check.{specs.Terms.{module_number, capped}, specs.declared.inequality.Inequality.Inequality}

-- a module more
pub gives_more : (f : ℕ → ℕ) (m gives common next : ℕ) → ((k : ℕ) → k < m → common ∣ f k) → gives ≡ f m → IsGcd common gives next → (k : ℕ) → k < m + 1 → next ∣ f k
gives_more f m gives common next so_far is gcd k lt = ⊎_elim
    (λ (same : k ≡ m). subst (λ n. next ∣ n) (is ∙ ap f (sym same)) gcd.1)
    (λ (other : k ≢ m). dvd_trans next gcd.0 (so_far k (omega (arith, lt, other))))
    (cases_eq k m)

-- a link more
pub links_more : (links : List Link) (line : Inequality) (e modules common next : ℕ) → modules ≡ module_number links e
    → ((k m : ℕ) → k < e → m < module_number links k → common ∣ capped line k m) → next ∣ common → ((m : ℕ) → m < modules → next ∣ capped line e m)
    → (k m : ℕ) → k < e + 1 → m < module_number links k → next ∣ capped line k m
links_more links line e modules common next same so_far divides own k m lt inside = ⊎_elim
    (λ (is : k ≡ e). subst (λ i. next ∣ capped line i m) (sym is) (own m (subst (λ n. m < n) (ap (module_number links) is ∙ sym same) inside)))
    (λ (other : k ≢ e). dvd_trans next divides (so_far k m (omega (arith, lt, other)) inside))
    (cases_eq k e)
