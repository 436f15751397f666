-- the line of a demand that a state separates
use Rattle.std.specs.Prelude.{◌≡◌, ℕ, List, [], ◌∷◌, ◌++◌, codes, decimal}
use Rattle.plan_terms.specs.Terms.{Case, IsFirstSeparation}
use Rattle.plan_report.specs.Terms.{state_name}

-- the text names the first state that separates a demand which has a need, and the first such demand
pub record NamesFirstSeparation (p : Case) (text : List ℕ) : Type 0 where
  pub state : ℕ
  pub place : ℕ
  pub first : IsFirstSeparation p state place
  pub printed : text ≡ codes "not survivable: state " ++ decimal state ++ 32 ∷ state_name p.listed state
      ++ codes " demand " ++ first.separates.demand.name ++ 10 ∷ []
