-- the order of candidates
use Rattle.std.specs.Prelude.{ℕ, ℤ, List, Option, Some, None, pos, ◌≡◌, ◌<◌, ◌≤ℤ◌, ◌<ℤ◌, ◌⊎◌}
use Rattle.checked_fraction.{specs.Terms.num, specs.declared.row.Row.Row}
use Rattle.simplex_law.specs.Terms.{IsNoLater}
use Rattle.simplex_core.specs.Terms.{nums_at}
use Rattle.key_law.specs.Terms.{ComesFirst}
use Rattle.key_rows.{specs.KeyRows.amounts, specs.declared.order.Candidate.Candidate}

-- the first candidate comes before the second, by link entries n over r and o over s where their values tie
abbrev pub IsCandidateFirst : ℕ → Candidate → (ℕ → ℤ) → ℤ → Candidate → (ℕ → ℤ) → ℤ → Type 0
IsCandidateFirst links first n r second o s = ComesFirst links (pos first.value) first.product (pos second.value) second.product n r o s first.role second.role

-- the first of two rows comes before the second, by their link entries where their values tie
abbrev pub IsRowFirst : ℕ → List Row → Candidate → Candidate → Type 0
IsRowFirst links rows first second = IsCandidateFirst links first (nums_at rows first.role) first.product second (nums_at rows second.role) second.product

-- row i with its value and its product, which is positive
pub record IsRowCandidate (links : ℕ) (values : List ℕ) (products : List ℤ) (x : Candidate) : Type 0 where
  pub inside : x.role < links
  pub value : pos x.value ≡ amounts values x.role
  pub product : x.product ≡ num products x.role
  pub positive : pos 0 <ℤ x.product

-- one of the first n roles with a positive product
abbrev pub IsPlacedRow : ℕ → Candidate → Type 0
IsPlacedRow n x = (x.role < n) × (pos 0 <ℤ x.product)

-- the better of some row and another one, of which it is one
abbrev pub IsBetterRow : ℕ → List Row → Option Candidate → Candidate → Candidate → Type 0
IsBetterRow links rows None other better = better ≡ other
IsBetterRow links rows (Some best) other better = ((better ≡ best) × IsRowFirst links rows best other) ⊎ ((better ≡ other) × IsRowFirst links rows other best)

-- row i comes no later than row k
abbrev pub IsNoLaterRow : ℕ → List Row → (ℕ → ℤ) → List ℤ → ℕ → ℕ → Type 0
IsNoLaterRow links rows rest products i k = IsNoLater links rest (nums_at rows i) (num products i) (nums_at rows k) (num products k)

-- the first of the first n rows whose product is positive, if there is one
abbrev pub IsBestRow : ℕ → List Row → (ℕ → ℤ) → List ℕ → List ℤ → ℕ → Option Candidate → Type 0
IsBestRow links rows rest values products n None = (k : ℕ) → k < n → num products k ≤ℤ pos 0
IsBestRow links rows rest values products n (Some best) = IsRowCandidate links values products best
    × ((k : ℕ) → k < n → pos 0 <ℤ num products k → IsNoLaterRow links rows rest products best.role k)
