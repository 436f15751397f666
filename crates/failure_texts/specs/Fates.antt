-- the effect of the failure of each link alone
use Rattle.std.specs.Prelude.{◌≡◌, ℕ, ◌∷◌, [], List, MatchOption, Some, length, slice_get}
use Rattle.plan_terms.specs.Terms.{Case, Demand, IsFirstSeparation, IsSurvivable, Link, Listed, Network, single_state}
use Rattle.failure_texts.specs.declared.fates.Fate.{Fate}

-- the network with these failure states and demands
abbrev pub with_states : Network → List Demand → List Listed → Case
with_states net demands listed = record { nodes = net.nodes; links = net.links; listed = listed; demands = demands; places = net.places }

-- the case in which this link alone may fail
abbrev pub alone : Network → List Demand → ℕ → Link → Case
alone net demands e link = with_states net demands (single_state e link.name ∷ [])

-- The case in which link e alone may fail is survivable, or this is the first demand that a state of it separates.
pub record IsFate (net : Network) (demands : List Demand) (e : ℕ) (link : Link) (fate : Fate) : Type 0 where
  pub of_link : fate.link.0 ≡ e
  pub comes_to : MatchOption fate.separated (IsSurvivable (alone net demands e link)) (λ k. (state : ℕ) × IsFirstSeparation (alone net demands e link) state k)

-- a fate for each of the first n links, in their order
pub record AreFates (net : Network) (demands : List Demand) (n : ℕ) (fates : List Fate) : Type 0 where
  pub long : length fates ≡ n
  pub each : (e : ℕ) (link : Link) (fate : Fate) → slice_get net.links e ≡ Some link → slice_get fates e ≡ Some fate → IsFate net demands e link fate
