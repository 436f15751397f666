-- lines that may be made
use Rattle.std.specs.Prelude.{◌≡◌, ℕ, ◌≤◌, ◌<◌, ◌^◌, List, [], ◌∷◌, All, length}
use Rattle.plan_terms.specs.Terms.{Link}
use Rattle.line_check.{specs.Terms.{module_number, module_price, need_of, summed_need, divided_up, IsSoundAt, weighed, Multiplier}, specs.declared.inequality.Inequality.Inequality, specs.declared.tested_lines.Tested.Tested}
use Rattle.line_maker.{specs.declared.numbers.Lowest.Lowest, specs.declared.pairs.Pair.Pair, specs.declared.candidate.Candidate.Candidate}

-- an earlier line that holds, with a numerator that a divided line may have
pub record IsTermOf (tested : List Tested) (m : Multiplier) : Type 0 where
  pub sound : IsSoundAt tested m.cut
  pub some : 1 ≤ m.num
  pub narrow : m.num < 2 ^ 62

-- two such lines
abbrev pub AreTwoTerms : List Tested → Pair → Type 0
AreTwoTerms tested pair = IsTermOf tested pair.first × IsTermOf tested pair.second

-- one or two earlier lines that hold
pub record AreFewTerms (tested : List Tested) (terms : List Multiplier) : Type 0 where
  pub some : 1 ≤ length terms
  pub few : length terms ≤ 2
  pub each : All (IsTermOf tested) terms

-- a candidate over one or two lines that hold
abbrev pub IsSumCandidate : List Tested → Candidate → Type 0
IsSumCandidate tested c = AreFewTerms tested c.terms

-- what the modules of a link give to a sum keeps its limit
abbrev pub IsNarrowLink : List Tested → List Multiplier → ℕ → ℕ → Type 0
IsNarrowLink tested terms e modules = (m : ℕ) → m < modules → module_price (weighed tested terms) e m < 2 ^ 126

-- all numbers of a sum keep their limits
pub record IsNarrowSum (links : List Link) (tested : List Tested) (terms : List Multiplier) : Type 0 where
  pub need : summed_need (weighed tested terms) < 2 ^ 126
  pub prices : (e : ℕ) → e < length links → IsNarrowLink tested terms e (module_number links e)

-- the numbers of a line over a divisor that leaves it a right side of 1 to 64
pub record HasSmallRight (line : Inequality) (lowest : Lowest) : Type 0 where
  pub need : lowest.numbers.need ≡ divided_up (need_of line) lowest.divisor
  pub some : 1 ≤ lowest.numbers.need
  pub small : lowest.numbers.need ≤ 64

-- one line, once
abbrev pub once : ℕ → List Multiplier
once i = record { num = 1; cut = i } ∷ []
