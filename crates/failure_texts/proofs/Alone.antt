-- a case whose list of states is one link's failure, or none
use Rattle.std.proofs.Common.{◌≡◌, ℕ, List, [], ◌∷◌, MatchOption, None, Option, Some, subst, arith}
use Rattle.failure_states.specs.declared.separations.Separation.{Separation}
use Rattle.plan_terms.specs.Terms.{Demand, IsFirstSeparation, IsSurvivable, Link, Listed, Network, case, single_state, States}
use Rattle.failure_texts.specs.Fates.{alone, with_states}

-- what is said of the case of states holds for their list
pub survivable_with : (net : Network) (states : States) (demands : List Demand) (listed : List Listed) → states.listed ≡ listed → IsSurvivable (case net states demands) → IsSurvivable (with_states net demands listed)
survivable_with net states demands listed is h = subst (λ l. IsSurvivable (with_states net demands l)) is h

pub separated_with : (net : Network) (states : States) (demands : List Demand) (listed : List Listed) (s k : ℕ) → states.listed ≡ listed
    → IsFirstSeparation (case net states demands) s k → IsFirstSeparation (with_states net demands listed) s k
separated_with net states demands listed s k is h = subst (λ l. IsFirstSeparation (with_states net demands l) s k) is h

pub survivable_alone : (net : Network) (states : States) (demands : List Demand) (e : ℕ) (link : Link) → states.listed ≡ single_state e link.name ∷ []
    → IsSurvivable (case net states demands) → IsSurvivable (alone net demands e link)
survivable_alone net states demands e link is h = survivable_with net states demands (single_state e link.name ∷ []) is h

pub separated_alone : (net : Network) (states : States) (demands : List Demand) (e : ℕ) (link : Link) (s k : ℕ) → states.listed ≡ single_state e link.name ∷ []
    → IsFirstSeparation (case net states demands) s k → IsFirstSeparation (alone net demands e link) s k
separated_alone net states demands e link s k is h = separated_with net states demands (single_state e link.name ∷ []) s k is h

-- where there are no states but the one in which nothing fails, the first separation is there
pub separated_first : (net : Network) (states : States) (demands : List Demand) (s k : ℕ) → states.listed ≡ [] → IsFirstSeparation (case net states demands) s k → IsFirstSeparation (with_states net demands []) 0 k
separated_first net states demands s k is h =
    let first = separated_with net states demands [] s k is h in
    subst (λ t. IsFirstSeparation (with_states net demands []) t k) (omega (arith, first.state)) first

-- with no state but the one without failures, a separation that is found is the first one there; if none is found, the demands survive
pub found_first : (net : Network) (states : States) (demands : List Demand) (found : Option Separation) (s : Separation) → states.listed ≡ []
    → MatchOption found (IsSurvivable (case net states demands)) (λ f. IsFirstSeparation (case net states demands) f.state.0 f.demand) → found ≡ Some s → IsFirstSeparation (with_states net demands []) 0 s.demand
found_first net states demands found s is h some =
    let here : IsFirstSeparation (case net states demands) s.state.0 s.demand = subst (λ o. MatchOption o (IsSurvivable (case net states demands)) (λ f. IsFirstSeparation (case net states demands) f.state.0 f.demand)) some h in
    separated_first net states demands s.state.0 s.demand is here

pub none_first : (net : Network) (demands : List Demand) (found : Option ℕ) → MatchOption found (IsSurvivable (with_states net demands [])) (λ k. IsFirstSeparation (with_states net demands []) 0 k) → found ≡ None → IsSurvivable (with_states net demands [])
none_first net demands found h none = subst (λ o. MatchOption o (IsSurvivable (with_states net demands [])) (λ k. IsFirstSeparation (with_states net demands []) 0 k)) none h
