-- sums over modules
use Rattle.std.proofs.Common.{◌≡◌, ℕ, suc, ◌+◌, ◌*◌, ◌≤◌, ◌<◌, List, ◌∷◌, length, ◌∙◌}
use Rattle.net_core.proofs.Sums.{below-same, below-le, below-times, below-plus, below-first}
use Rattle.plan_terms.specs.Terms.{Link, sum_below}
use Rattle.line_check.specs.Inequalities.{module_number, over_modules}

pub over-le : (links : List Link) (f g : ℕ → ℕ → ℕ) → ((e m : ℕ) → e < length links → m < module_number links e → f e m ≤ g e m) → over_modules links f ≤ over_modules links g
over-le links f g h = below-le (length links) _ _ (λ e le. below-le (module_number links e) (f e) (g e) (λ m lm. h e m le lm))

pub over-same : (links : List Link) (f g : ℕ → ℕ → ℕ) → ((e m : ℕ) → e < length links → m < module_number links e → f e m ≡ g e m) → over_modules links f ≡ over_modules links g
over-same links f g h = below-same (length links) _ _ (λ e le. below-same (module_number links e) (f e) (g e) (λ m lm. h e m le lm))

pub over-plus : (links : List Link) (f g : ℕ → ℕ → ℕ) → over_modules links (λ e m. f e m + g e m) ≡ over_modules links f + over_modules links g
over-plus links f g =
    below-same (length links) _ (λ e. sum_below (module_number links e) (f e) + sum_below (module_number links e) (g e)) (λ e le. below-plus (module_number links e) (f e) (g e))
    ∙ below-plus (length links) (λ e. sum_below (module_number links e) (f e)) (λ e. sum_below (module_number links e) (g e))

pub over-times : (links : List Link) (c : ℕ) (f : ℕ → ℕ → ℕ) → over_modules links (λ e m. c * f e m) ≡ c * over_modules links f
over-times links c f =
    below-same (length links) _ (λ e. c * sum_below (module_number links e) (f e)) (λ e le. below-times (module_number links e) c (f e))
    ∙ below-times (length links) c (λ e. sum_below (module_number links e) (f e))

-- the first link apart
pub over-first : (l : Link) (ls : List Link) (f : ℕ → ℕ → ℕ) → over_modules (l ∷ ls) f ≡ sum_below (length l.modules) (f 0) + over_modules ls (λ e. f (suc e))
over-first l ls f = below-first (length ls) (λ e. sum_below (module_number (l ∷ ls) e) (f e))
