-- the limits of divided lines, and their coefficients link by link
use Rattle.std.{specs.Prelude.{◌≡◌, ℕ, ◌≤◌, ◌<◌, ◌^◌, true, List, All, IsTrue, length, map, min}, specs.List.range_with_len}
use Rattle.master_bound.specs.declared.answer.Multiplier.{Multiplier}
use Rattle.plan_terms.specs.Terms.{Link}
use Rattle.line_check.{specs.Inequalities.{WeightedLine, module_number, module_price}, specs.Lines.divided_up, specs.Testing.{says, test_at}, specs.declared.tested_lines.Tested.Tested}

-- a divisor and numerators keep their limits
pub record KeepsLimits (divisor : ℕ) (terms : List Multiplier) : Type 0 where
  pub positive : 1 ≤ divisor
  pub divisor_limit : divisor < 2 ^ 126
  pub some : 1 ≤ length terms
  pub few : length terms ≤ 256
  pub nums : All (λ m. (1 ≤ m.num) × (m.num < 2 ^ 62)) terms

-- index i is that of a robust line
abbrev pub IsRobustAt : List Tested → ℕ → Type 0
IsRobustAt tested i = (i < length tested) × IsTrue (says true (test_at tested i))

-- the coefficient of module m of link e in a divided line
abbrev pub divided_coef : List WeightedLine → ℕ → ℕ → ℕ → ℕ → ℕ
divided_coef terms need divisor e m = divided_up (min (module_price terms e m) need) divisor

-- one of the first n modules of a link has too wide a price
abbrev pub HasWidePrice : List WeightedLine → ℕ → ℕ → Type 0
HasWidePrice terms e n = (m : ℕ) × (m < n) × (2 ^ 126 ≤ module_price terms e m)

-- the coefficients of the first n modules of a link, none of which has too wide a price
pub record AreLinkCoefs (terms : List WeightedLine) (need divisor e n : ℕ) (coefs : List ℕ) : Type 0 where
  pub is : coefs ≡ map (divided_coef terms need divisor e) (range_with_len 0 n)
  pub fit : (m : ℕ) → m < n → module_price terms e m < 2 ^ 126

-- the coefficients of the modules of the first n links, none of which has too wide a price
pub record AreDividedCoefs (links : List Link) (terms : List WeightedLine) (need divisor n : ℕ) (coefs : List (List ℕ)) : Type 0 where
  pub is : coefs ≡ map (λ e. map (divided_coef terms need divisor e) (range_with_len 0 (module_number links e))) (range_with_len 0 n)
  pub fit : (e m : ℕ) → e < n → m < module_number links e → module_price terms e m < 2 ^ 126
