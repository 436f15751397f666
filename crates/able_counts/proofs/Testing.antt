-- routings that are kept or become ones within other capacities
use Rattle.std.proofs.Common.{◌≡◌, ◌∙◌, ℕ, ◌+◌, ◌≤◌, ◌<◌, ◌⊎◌, inl, inr, ⊎_elim, List, All, Some, Option, IfSome, length, slice_get, refl, sym, subst, arith}
use Rattle.net_core.proofs.Library.{cases_lt, slice_get_within}
use Rattle.plan_terms.specs.Terms.{Caps, CutLine, Routing, Case, graph_in, AreDemands, Joins, IsCut, Carries, IsSurvivable}
use Rattle.route_law.specs.Terms.{AreJoined}
use Rattle.separator.specs.Terms.{IsRouted}
use Rattle.able_counts.{proofs.FoundForms.routing_found, specs.AbleTests.{AreKeptOrWithin, AreRoutingsWithin, IsRoutingWithin, IsStopAt}, specs.declared.stop.Stop.Stop}

module _ (p : Case) (nums : List ℕ) where
  pub kept_none : (a : List Routing) → AreKeptOrWithin p nums a a
  kept_none a = record { same = refl; each = λ s r at. inl at }

  pub kept_both : (a b c : List Routing) → AreKeptOrWithin p nums a b → AreKeptOrWithin p nums b c → AreKeptOrWithin p nums a c
  kept_both a b c one two = record { same = two.same ∙ one.same; each = λ s r at. ⊎_elim (λ old. one.each s r old) (λ within. inr within) (two.each s r at) }

module _ (p : Case) (s : ℕ) (caps : Caps) (scale : caps.scale ≡ 1) where
  -- a routing that is found
  pub routed_within : AreDemands (length p.nodes) p.demands → length p.links ≤ 256 → (r : Routing) → IsRouted (graph_in p s) p.demands caps r → IsRoutingWithin p s caps.nums r
  routed_within belong few r is = record {
    carries = subst (λ n. Carries (Joins (graph_in p s)) p.demands n caps.nums r) scale is.carries;
    form = routing_found (graph_in p s) p.demands belong few caps r is;
    lowest = is.lowest;
  }

-- a state whose positive demands aren't separated
pub survivable_joins : (p : Case) (s : ℕ) → IsSurvivable p → s < length p.listed + 1 → AreJoined (graph_in p s) p.demands
survivable_joins p s survivable inside k d at needed apart = survivable s k (omega (arith, inside)) (record { demand = d; at = at; needed = needed; apart = apart })

-- the routings of the states below n are within the capacities
pub record AreWithinBelow (p : Case) (nums : List ℕ) (n : ℕ) (routings : List Routing) : Type 0 where
  pub each : (t : ℕ) (r : Routing) → t < n → slice_get routings t ≡ Some r → IsRoutingWithin p t nums r

module _ (p : Case) (nums : List ℕ) where
  pub within_none : (routings : List Routing) → AreWithinBelow p nums 0 routings
  within_none routings = record { each = λ t r lt at. absurd (omega (arith, lt)) }

  -- one state more
  pub within_more : (n : ℕ) (old new : List Routing) → AreWithinBelow p nums n old → AreKeptOrWithin p nums old new → ((r : Routing) → slice_get new n ≡ Some r → IsRoutingWithin p n nums r) → AreWithinBelow p nums (n + 1) new
  within_more n old new before kept here = record {
    each = λ t r lt at. ⊎_elim
        (λ (low : t < n). ⊎_elim (λ was. before.each t r low was) (λ within. within) (kept.each t r at))
        (λ (ge : n ≤ t). let same : t ≡ n = omega (arith, lt, ge) in subst (λ k. IsRoutingWithin p k nums r) (sym same) (here r (subst (λ k. slice_get new k ≡ Some r) same at)))
        (cases_lt t n);
  }

  -- all states
  pub within_all : (n : ℕ) (routings : List Routing) → length routings ≡ length p.listed + 1 → length p.listed + 1 ≤ n → AreWithinBelow p nums n routings → AreRoutingsWithin p nums routings
  within_all n routings long all below = record {
    states = long;
    each = λ s r at. below.each s r (let lt = slice_get_within routings s r at in omega (arith, lt, long, all)) at;
  }

-- what holds of both stops holds of the later one
pub stop_of_later : (p : Case) (caps : Caps) (first second result : Option Stop) → (result ≡ first) ⊎ (result ≡ second) → IfSome first (IsStopAt p caps) → IfSome second (IsStopAt p caps) → IfSome result (IsStopAt p caps)
stop_of_later p caps first second result one a b =
    ⊎_elim (λ is. subst (λ (o : Option Stop). IfSome o (IsStopAt p caps)) (sym is) a) (λ is. subst (λ (o : Option Stop). IfSome o (IsStopAt p caps)) (sym is) b) one

-- cuts of the case have a length for each link
pub lengths_of_cuts : (p : Case) (n : ℕ) (cuts : List CutLine) → n ≡ length p.links → All (IsCut p) cuts → All (λ cut. length cut.lengths ≡ n) cuts
lengths_of_cuts p n cuts long are k d lt = (are k d lt).kept.count ∙ sym long
