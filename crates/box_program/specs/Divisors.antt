-- numbers that divide all numbers of lines
use Rattle.std.{specs.Prelude.{ℕ, ◌-◌, ◌↔◌, List, All}, specs.Int.◌∣◌}
use Rattle.tree_check.specs.Terms.{Inequality, Tested}

-- a number divides each coefficient of a line, and what the line asks for beyond what is given
abbrev pub DividesNumbers : ℕ → Inequality → Type 0
DividesNumbers d line = All (λ coefs. All (λ c. d ∣ c) coefs) line.coefs × (d ∣ (line.right - line.given))

-- the greatest number that divides another one and a line
abbrev pub IsDivisorWith : ℕ → Inequality → ℕ → Type 0
IsDivisorWith unit line g = (d : ℕ) → (d ∣ g) ↔ (d ∣ unit) × DividesNumbers d line

-- the greatest number that divides all lines
abbrev pub IsCommonUnit : List Tested → ℕ → Type 0
IsCommonUnit tested g = (d : ℕ) → (d ∣ g) ↔ All (λ t. DividesNumbers d t.line) tested
