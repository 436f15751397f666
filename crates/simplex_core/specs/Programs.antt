-- programs that stay the same, and what is found of them
use Rattle.std.specs.Prelude.{ℕ, ℤ, length, get_or, pos, Result, Ok, Err, ◌≡◌, ◌<◌, ◌^◌, ◌≤ℤ◌, ◌↔◌, ◌*ℤ◌}
use Rattle.checked_fraction.specs.Terms.{num}
use Rattle.simplex_law.specs.Terms.{int_sum, ColumnOf, IsProgramColumn, slack_basis, AreNames, IsReached, HoldsKind, IsReachedEvidence, IsOptimum, IsGreatestGain}
use Rattle.simplex_core.{specs.declared.optimum.Optimum.Optimum, specs.declared.solver.SimplexFault.SimplexFault, specs.declared.solver.SimplexFault.TheVariants.{Wide, NoMemory}}

-- two programs have the same rows, bounds, slacks and columns
pub record IsSameProgram {N : Type 0} (rows others : ℕ) (bound bounds : ℕ → ℤ) (slack slacks : ℕ → N)
    (is_listed are_listed : ColumnOf N → Type 0) : Type 0 where
  pub count : others ≡ rows
  pub limits : (k : ℕ) → k < rows → bounds k ≡ bound k
  pub slacks_are : (k : ℕ) → k < rows → slacks k ≡ slack k
  pub listed : (c : ColumnOf N) → are_listed c ↔ is_listed c

module _ {N : Type 0} (rows : ℕ) (bound : ℕ → ℤ) (slack : ℕ → N) (is_listed : ColumnOf N → Type 0) where
  -- A best basis that gaining steps reach, with values that fill the rows, and duals of equal value. No amounts gain more;
  -- the denominator is below 2 ^ 62, the values are below 2 ^ 124, and no dual is negative.
  pub record Solves (best : Optimum N) : Type 0 where
    pub basis : ℕ → ColumnOf N
    pub names : AreNames rows basis best.basis
    pub reached : IsReached rows bound (IsProgramColumn rows slack is_listed) (slack_basis slack) basis
    pub optimum : IsOptimum rows bound (IsProgramColumn rows slack is_listed) basis (λ j. pos (get_or best.values j 0)) (pos best.den)
        (num best.duals.nums) best.duals.den
    pub greatest : IsGreatestGain rows bound (IsProgramColumn rows slack is_listed) (int_sum rows (λ j. pos (get_or best.values j 0) *ℤ (basis j).gain))
        (pos best.den)
    pub narrow : best.den < 2 ^ 62
    pub low : (j : ℕ) → j < rows → get_or best.values j 0 < 2 ^ 124
    pub count : length best.values ≡ rows
    pub prices : length best.duals.nums ≡ rows
    pub positive : (k : ℕ) → k < rows → pos 0 ≤ℤ num best.duals.nums k

  -- what is found of a program
  abbrev pub IsSimplexAnswer : Result (Optimum N) (SimplexFault N) → Type 0
  IsSimplexAnswer (Ok best) = Solves best
  IsSimplexAnswer (Err (Wide names kind)) =
      IsReachedEvidence rows bound slack (IsProgramColumn rows slack is_listed) (HoldsKind rows bound slack (IsProgramColumn rows slack is_listed)) names kind
  IsSimplexAnswer (Err NoMemory) = Unit {0}
