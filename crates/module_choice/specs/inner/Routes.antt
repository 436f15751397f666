-- one path for each demand that has a need, state by state
use Rattle.std.specs.Prelude.{◌≡◌, ℕ, ◌*◌, ◌^◌, ◌<◌, ◌==◌, ◌⊎◌, ◌++◌, [], ◌∷◌, List, All, AllPairs, Any, Some, count_by, length, slice_get, slice_index, sum_by, take}
use Rattle.plan_terms.specs.Terms.{Demand, LinkId, Link, Module, Flow, Routing, Case, graph_in, Joins, modules_capacity, CoverLoads, IsLeastFlow, IsLeastRouting, peak, IsLeastPath}
use Rattle.module_choice.specs.inner.Cheapest.{AreCheapest}

-- how often link e is on the path
abbrev pub times : ℕ → List LinkId → ℕ
times e path = count_by (λ x. x.0 == e) path

-- what the flows bring onto link e, each as often as its path has the link
abbrev pub weight : List Flow → ℕ → ℕ
weight flows e = sum_by (λ f. f.num * times e f.path) flows

-- a demand with a need gets the flow of its whole need along its least path, one without gets none
abbrev pub TakesDemand : (ℕ → ℕ → ℕ → Type 0) → List ℕ → Demand → ℕ → List Flow → List Flow → Type 0
TakesDemand joins lengths d k old new =
    ((d.need ≡ 0) × (new ≡ old))
    ⊎ ((0 < d.need) × (es : List LinkId) × IsLeastPath joins lengths d.from.0 d.to.0 es × (new ≡ old ++ record { demand = k; path = es; num = d.need } ∷ []))

-- the flows carry the whole need of each of the first k demands along its least path
pub record AreLeastFlows (joins : ℕ → ℕ → ℕ → Type 0) (lengths : List ℕ) (demands : List Demand) (k : ℕ) (flows : List Flow) : Type 0 where
  pub each : All (IsLeastFlow joins lengths demands) flows
  pub early : All (λ f. f.demand < k) flows
  pub every : (j : ℕ) (d : Demand) → j < k → slice_get demands j ≡ Some d → 0 < d.need → Any (λ f. f.demand ≡ j) flows
  pub ordered : AllPairs (λ f g. f.demand < g.demand) flows
  pub total : sum_by (λ f. f.num) flows ≡ sum_by (λ d. d.need) (take k demands)

-- the routings of the first n states, and what they bring onto each link at most
pub record AreRouted (p : Case) (lengths : List ℕ) (n : ℕ) (routings : List Routing) (peaks : List ℕ) : Type 0 where
  pub count : length routings ≡ n
  pub routed : (s : ℕ) (r : Routing) → slice_get routings s ≡ Some r → IsLeastRouting (Joins (graph_in p s)) lengths p.demands r
  pub size : length peaks ≡ length p.links
  pub greatest : (e : ℕ) → e < length p.links → slice_index peaks e ≡ peak routings e
  pub small : (e : ℕ) → peak routings e < 2 ^ 44

-- the counts of all links that have these modules are the cheapest for their needs
abbrev pub AlikeAreCovered : List Link → List ℕ → List (List ℕ) → List Module → Type 0
AlikeAreCovered links needs counts modules =
    (e : ℕ) (l : Link) (c : List ℕ) → slice_get links e ≡ Some l → slice_get counts e ≡ Some c → l.modules ≡ modules
    → AreCheapest l.modules (slice_index needs e) c

-- an earlier link has the modules of link e
pub record HasEarlier (links : List Link) (e : ℕ) : Type 0 where
  pub at : ℕ
  pub before : at < e
  pub earlier : Link
  pub link : Link
  pub is : slice_get links at ≡ Some earlier
  pub is_link : slice_get links e ≡ Some link
  pub alike : earlier.modules ≡ link.modules

-- counts that cover each link's load less its pre-installed capacity, one covering after another
pub record AreCovered (links : List Link) (loads : ℕ → ℕ) (counts : List (List ℕ)) : Type 0 where
  pub covers : CoverLoads links loads counts
  pub few : All (λ c. All (λ n. n < 2 ^ 44) c) counts
  pub small : (e : ℕ) (l : Link) (c : List ℕ) → slice_get links e ≡ Some l → slice_get counts e ≡ Some c → modules_capacity l.modules c < 2 ^ 45
