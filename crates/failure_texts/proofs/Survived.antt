-- states that a network survives one by one, it survives in one list
use Rattle.std.proofs.Common.{◌≡◌, ℕ, zero, suc, ◌<◌, false, List, [], ◌∷◌, All, get_or, length, refl, sym, ap, arith, ◌∙◌}
use Rattle.net_core.proofs.Library.{option_map_or, slice_get-get_or}
use Rattle.plan_terms.{specs.Terms.{Demand, IsSurvivable, Joins, Listed, Network, Separates, fails, graph_in, names_link}, proofs.Lemmas.path_alike}
use Rattle.failure_texts.specs.Fates.{with_states}

module _ (net : Network) (demands : List Demand) where
  -- where one state fails no more links than another, it joins what that joins
  joins_alike : (a b : List Listed) (s t : ℕ) → ((e : ℕ) → fails a s e ≡ fails b t e) → (e x y : ℕ) → Joins (graph_in (with_states net demands a) s) e x y → Joins (graph_in (with_states net demands b) t) e x y
  joins_alike a b s t same e x y joins = record {
    survives = record { link = joins.survives.link; at = joins.survives.at; has_module = joins.survives.has_module; unfailed = sym (same e) ∙ joins.survives.unfailed };
    ends = joins.ends;
  }

  -- what a state separates, a state that fails the same links separates, too
  separates_alike : (a b : List Listed) (s t k : ℕ) → ((e : ℕ) → fails a s e ≡ fails b t e) → Separates (with_states net demands a) s k → Separates (with_states net demands b) t k
  separates_alike a b s t k same h = record {
    demand = h.demand;
    at = h.at;
    needed = h.needed;
    apart = λ es path. h.apart es (path_alike (Joins (graph_in (with_states net demands b) t)) (Joins (graph_in (with_states net demands a) s)) (joins_alike b a t s (λ e. sym (same e))) h.demand.from.0 h.demand.to.0 es path);
  }

  -- a listed state fails what it fails as the only one
  fails_listed : (listed : List Listed) (i : ℕ) (d : Listed) (e : ℕ) → i < length listed → fails listed (suc i) e ≡ fails (get_or listed i d ∷ []) 1 e
  fails_listed listed i d e lt = ap (λ o. option_map_or (λ l. names_link e l.links) o false) (slice_get-get_or listed i d lt)

  pub survived : (listed : List Listed) → IsSurvivable (with_states net demands []) → All (λ l. IsSurvivable (with_states net demands (l ∷ []))) listed → IsSurvivable (with_states net demands listed)
  survived listed none each zero k le h = none 0 k (omega arith) (separates_alike listed [] 0 0 k (λ e. refl) h)
  survived listed none each (suc i) k le h =
      let d : Listed = record { name = []; links = [] } in
      let lt : i < length listed = omega (arith, le) in
      each i d lt 1 k (omega arith) (separates_alike listed (get_or listed i d ∷ []) (suc i) 1 k (λ e. fails_listed listed i d e lt) h)
