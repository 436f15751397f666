-- all demands that states separate, and the lines that name them
use Rattle.std.specs.Prelude.{◌≡◌, ℕ, ◌≤◌, ◌<◌, ◌⊎◌, List, ◌++◌, All, AllPairs, Contains, codes, cond, flat_map, length, nat_eq}
use Rattle.plan_terms.specs.Terms.{Case, Separates}
use Rattle.plan_report.specs.Terms.{demand_name, state_name}
use Rattle.failure_states.specs.declared.separations.Separation.{Separation}

-- a state and a demand come before others: the state does, or they are of one state, and the demand does
abbrev pub ComesBefore : ℕ → ℕ → ℕ → ℕ → Type 0
ComesBefore s k t j = (s < t) ⊎ ((s ≡ t) × (k < j))

-- one comes before the other
abbrev pub IsEarlier : Separation → Separation → Type 0
IsEarlier x y = ComesBefore x.state.0 x.demand y.state.0 y.demand

-- The states of the case separate these demands and no others, which are named by state and then by place, each once.
pub record AreSeparations (p : Case) (found : List Separation) : Type 0 where
  pub each : All (λ x. (x.state.0 ≤ length p.listed) × Separates p x.state.0 x.demand) found
  pub all : (s k : ℕ) → s ≤ length p.listed → Separates p s k → Contains found (record { state = record { 0 = s }; demand = k })
  pub order : AllPairs IsEarlier found

-- the words for a state in which a demand has no path
abbrev pub state_words : Case → ℕ → List ℕ
state_words p s = cond (nat_eq s 0) (codes "without any failure") (codes "where " ++ state_name p.listed s ++ codes " fails,")

-- the line of a separation
abbrev pub separation_line : Case → Separation → List ℕ
separation_line p x =
    codes "  " ++ state_words p x.state.0 ++ codes " no path joins the ends of demand " ++ demand_name p.demands x.demand ++ codes "\n"

-- the lines of all
abbrev pub separation_lines : Case → List Separation → List ℕ
separation_lines p found = flat_map (separation_line p) found
