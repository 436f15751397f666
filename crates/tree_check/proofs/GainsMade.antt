-- gains of modules, one by one and link by link
use Rattle.std.proofs.Common.{◌≡◌, ℕ, ◌+◌, ◌<◌, ◌≤◌, ◌^◌, List, [], ◌∷◌, All, length, zero, suc, ⊎_elim, refl, subst, sym, add-one, arith}
use Rattle.net_core.proofs.Library.{AllByRecursion, cases_lt, recursion_from_All}
use Rattle.plan_terms.specs.Terms.{IsModule, Link, sum_below}
use Rattle.line_check.specs.Inequalities.{module_number}
use Rattle.tree_check.{specs.declared.gains.Gains.Gains, specs.declared.weighing.Weighing.Weighing, specs.inner.Weighing.{AddsModules, AreGainsOf, IsBoundedIn, gain_in, loss_in}}

-- the sum below the next number
pub below_next : (n : ℕ) (f : ℕ → ℕ) → sum_below (n + 1) f ≡ sum_below n f + f n
below_next n f = rw add-one refl

-- a link more
pub gains_more : (w : Weighing) (e : ℕ) (now new : Gains) → AreGainsOf w e now → module_number w.links.now e ≤ 16 → AddsModules w e (module_number w.links.now e) now new → AreGainsOf w (e + 1) new
gains_more w e now new so_far few adds = record {
  bounded = λ k m lt lm. ⊎_elim (λ low. so_far.bounded k m low lm) (λ (high : e ≤ k). let same : e ≡ k = omega arith in subst (λ (i : ℕ). IsBoundedIn w i m) same (adds.bounded m (subst (λ (i : ℕ). m < module_number w.links.now i) (sym same) lm))) (cases_lt k e);
  gains = omega (arith, so_far.gains, adds.gains, below_next e (λ i. sum_below (module_number w.links.now i) (gain_in w i)));
  losses = omega (arith, so_far.losses, adds.losses, below_next e (λ i. sum_below (module_number w.links.now i) (loss_in w i)));
  gains_high = omega (arith, so_far.gains_high, adds.gains_high, few);
  losses_high = omega (arith, so_far.losses_high, adds.losses_high, few);
}

few_by_recursion : (links : List Link) → AllByRecursion (λ l. (length l.modules ≤ 16) × (l.setup < 2 ^ 40) × All IsModule l.modules) links → (e : ℕ) → module_number links e ≤ 16
few_by_recursion [] all e = omega arith
few_by_recursion (l ∷ ls) all zero = all.0.0
few_by_recursion (l ∷ ls) all (suc e) = few_by_recursion ls all.1 e

-- a link has few modules
pub few_modules : (links : List Link) → All (λ l. (length l.modules ≤ 16) × (l.setup < 2 ^ 40) × All IsModule l.modules) links → (e : ℕ) → module_number links e ≤ 16
few_modules links all e = few_by_recursion links (recursion_from_All (λ l. (length l.modules ≤ 16) × (l.setup < 2 ^ 40) × All IsModule l.modules) links all) e
