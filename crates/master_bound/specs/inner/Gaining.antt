-- cuts that gain at the prices of the links
use Rattle.std.specs.Prelude.{ℕ, ℤ, ◌≡◌, ◌<◌, ◌*ℤ◌, ◌-ℤ◌, ◌<ℤ◌, ◌≤ℤ◌, List, Option, None, Some, length, pos, slice_get}
use Rattle.checked_fraction.{specs.Terms.num, specs.declared.row.Row.Row}
use Rattle.module_prices.specs.declared.cheapest.UnitPair.{UnitPair}
use Rattle.plan_terms.specs.Terms.{Link, CutLine}
use Rattle.simplex_law.specs.Terms.{dot}
use Rattle.master_law.specs.Terms.{cut_gain}
use Rattle.master_bound.{specs.declared.candidate.Candidate.Candidate, specs.Narrow.length_entry}

-- what the first n entries of lengths cost
abbrev pub cost_below : Row → List UnitPair → List ℕ → ℕ → ℤ
cost_below duals pairs lengths n = dot n (num duals.nums) (λ e. pos (length_entry pairs lengths e))

-- what a unit of lengths gains beyond what its entries cost, or that it gains no more than that
abbrev pub IsSurplus : Row → List UnitPair → List ℕ → ℤ → Option ℕ → Type 0
IsSurplus duals pairs lengths gain None = (duals.den *ℤ gain) ≤ℤ cost_below duals pairs lengths (length lengths)
IsSurplus duals pairs lengths gain (Some rest) = (0 < rest) × (pos rest ≡ duals.den *ℤ gain -ℤ cost_below duals pairs lengths (length lengths))

-- a cut gains more than its entries cost
abbrev pub CutGains : List Link → List UnitPair → Row → CutLine → Type 0
CutGains links pairs duals cut = cost_below duals pairs cut.lengths (length links) <ℤ (duals.den *ℤ cut_gain links cut)

-- none of the first n cuts gains, or this one does
abbrev pub IsCandidate : List Link → List UnitPair → List CutLine → Row → ℕ → Option Candidate → Type 0
IsCandidate links pairs cuts duals n None = (k : ℕ) (cut : CutLine) → k < n → slice_get cuts k ≡ Some cut → CutGains links pairs duals cut → ⊥
IsCandidate links pairs cuts duals n (Some c) = (cut : CutLine) × (slice_get cuts c.cut ≡ Some cut) × CutGains links pairs duals cut

-- the cut at place k gains, or it doesn't
abbrev pub IsCandidateAt : List Link → List UnitPair → List CutLine → Row → ℕ → Option Candidate → Type 0
IsCandidateAt links pairs cuts duals k None = (cut : CutLine) → slice_get cuts k ≡ Some cut → CutGains links pairs duals cut → ⊥
IsCandidateAt links pairs cuts duals k (Some c) = (cut : CutLine) × (slice_get cuts c.cut ≡ Some cut) × CutGains links pairs duals cut
