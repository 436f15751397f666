-- demands whose ends have different labels are those that a state separates
use Rattle.std.proofs.Common.{◌≡◌, ◌≢◌, ℕ, ◌+◌, ◌<◌, ◌≤◌, List, length, get_or, Option, None, Some, ⊎_elim, refl, subst, arith, slice_get, MatchOption}
use Rattle.net_core.proofs.Library.{cases_eq, slice_get_read, slice_get_within, get_or_from_slice_get}
use Rattle.plan_terms.{specs.Terms.{Demand, AreDemands, IsDemand, Case, graph_in, Joins, Separates}, proofs.Lemmas.joins_below}
use Rattle.failure_states.{specs.inner.Components.{AreComponents, IsFirst, IsSplit}, proofs.Labelling.{components_apart, components_joined}}

-- what is said of a place k of the demands is said of the demand there
pub split_test : (labels : List ℕ) (demands : List Demand) (k : ℕ) (d : Demand) → k < length demands → d ≡ get_or demands k d → IsSplit labels demands k → (0 < d.need) × (get_or labels d.from.0 0 ≢ get_or labels d.to.0 0)
split_test labels demands k d lt is s =
    let here : slice_get demands k ≡ Some d = slice_get_read demands (length demands) k d refl lt is in
    let same : s.demand ≡ d = cc (s.at, here) in
    subst (λ (x : Demand). (0 < x.need) × (get_or labels x.from.0 0 ≢ get_or labels x.to.0 0)) same (s.needed, s.differ)

pub split_more : (labels : List ℕ) (demands : List Demand) (k : ℕ) → (IsSplit labels demands k → ⊥) → ((j : ℕ) → j < k → IsSplit labels demands j → ⊥) → (j : ℕ) → j < k + 1 → IsSplit labels demands j → ⊥
split_more labels demands k none before j lt s = ⊎_elim
    (λ e. none (subst (IsSplit labels demands) e s))
    (λ ne. before j (omega arith) s)
    (cases_eq j k)

-- where none of all demands is split, none is
pub split_none : (labels : List ℕ) (demands : List Demand) (k : ℕ) → length demands ≤ k → ((j : ℕ) → j < k → IsSplit labels demands j → ⊥) → (j : ℕ) → IsSplit labels demands j → ⊥
split_none labels demands k all before j s = before j (omega (arith, slice_get_within demands j s.demand s.at)) s

module _ (c : Case) (n s : ℕ) (labels : List ℕ) (h : AreComponents (Joins (graph_in c s)) n (length c.links) labels) (are : AreDemands n c.demands) where
  split_separates : (k : ℕ) → IsSplit labels c.demands k → Separates c s k
  split_separates k p = record {
    demand = p.demand;
    at = p.at;
    needed = p.needed;
    apart = components_apart (Joins (graph_in c s)) n (length c.links) p.demand.from.0 p.demand.to.0 labels (joins_below (graph_in c s)) h p.differ;
  }

  separates_split : (k : ℕ) → Separates c s k → IsSplit labels c.demands k
  separates_split k p =
      let lt : k < length c.demands = slice_get_within c.demands k p.demand p.at in
      let is : IsDemand n p.demand = subst (IsDemand n) (get_or_from_slice_get c.demands k p.demand p.demand p.at) (are.each k p.demand lt) in
      record {
        demand = p.demand;
        at = p.at;
        needed = p.needed;
        differ = λ e. components_joined (Joins (graph_in c s)) n (length c.links) p.demand.from.0 p.demand.to.0 labels h is.from_known is.to_known e p.apart;
      }

  none_separates : ((k : ℕ) → IsSplit labels c.demands k → ⊥) → (k : ℕ) → Separates c s k → ⊥
  none_separates none k p = none k (separates_split k p)

  first_separates : (k : ℕ) → IsFirst (IsSplit labels c.demands) k → IsFirst (Separates c s) k
  first_separates k f = record {
    here = split_separates k f.here;
    least = λ j lt p. f.least j lt (separates_split j p);
  }

  -- so the first split demand is the first that the state separates
  pub answer_separates : (r : Option ℕ) → MatchOption r ((k : ℕ) → IsSplit labels c.demands k → ⊥) (IsFirst (IsSplit labels c.demands)) → MatchOption r ((k : ℕ) → Separates c s k → ⊥) (IsFirst (Separates c s))
  answer_separates None r = none_separates r
  answer_separates (Some k) r = first_separates k r

-- one more state separates nothing
pub states_more : (c : Case) (s : ℕ) → ((k : ℕ) → Separates c s k → ⊥) → ((t k : ℕ) → t < s → Separates c t k → ⊥) → (t k : ℕ) → t < s + 1 → Separates c t k → ⊥
states_more c s none before t k lt p = ⊎_elim
    (λ e. none k (subst (λ x. Separates c x k) e p))
    (λ ne. before t k (omega arith) p)
    (cases_eq t s)
