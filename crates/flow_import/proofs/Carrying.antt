-- Splits whose links survive, within the capacities, carry the demands.
use Rattle.std.proofs.Common.{◌≡◌, ℕ, zero, suc, ◌<◌, ◌≤◌, ◌==◌, ◌||◌, Bool, true, false, cond, List, [], ◌∷◌, length, map, get_or, refl, ap, subst, arith, All, filter, eq-eqb}
use Rattle.net_core.proofs.Library.{All-head, All-tail, get_or-le-sum_by, slice_get-get_or, slice_get_within}
use Rattle.plan_terms.specs.Terms.{Case, graph_in, Graph, HasEnds, Joins, Survives, names_link, Demand, LinkId, Link, Flow, Carries, IsFlow, load, IsPath, Leads}
use Rattle.path_split.{specs.declared.arc.PathFlow.PathFlow, specs.Splits.{AreEnds, IsFlowSplit}}
use Rattle.flow_file.specs.declared.flow.LinkFlow.{LinkFlow}
use Rattle.flow_import.{specs.Imports.{AreAlive, FitInto, IsImportedState, demand_arcs, demand_paths, flow_load}, specs.inner.Steps.AreSplitTo, proofs.Parts.{as_path, loads_within, sent_by}}

-- ---- what holds of all that passed a test holds of each

module _ {X Y : Type 0} (P : Y → Type 0) (h : X → Y) (t : X → Bool) where
  past_first : (b : Bool) (x : X) (xs : List X) → All P (map h (cond b (x ∷ xs) xs)) → All P (map h xs)
  past_first true x xs all = All-tail P (h x) (map h xs) all
  past_first false x xs all = all

  first_passed : (b : Bool) (x : X) (xs : List X) → b ≡ true → All P (map h (cond b (x ∷ xs) xs)) → P (h x)
  first_passed true x xs e all = All-head P (h x) (map h xs) all
  first_passed false x xs e all = absurd (let q : false ≡ true = e in cc)

  each_passed : (xs : List X) (i : ℕ) (d : X) → i < length xs → t (get_or xs i d) ≡ true → All P (map h (filter t xs)) → P (h (get_or xs i d))
  each_passed [] i d lt e all = absurd (omega (arith, lt))
  each_passed (x ∷ xs) zero d lt e all = first_passed (t x) x (filter t xs) e all
  each_passed (x ∷ xs) (suc i) d lt e all = each_passed xs i d (omega (arith, lt)) e (past_first (t x) x (filter t xs) all)

-- ---- paths along links that survive

or_true : (b c : Bool) → c ≡ true → (b || c) ≡ true
or_true true c e = refl
or_true false c e = e

named_first : (e : LinkId) (es : List LinkId) → names_link e.0 (e ∷ es) ≡ true
named_first e es = ap (λ (b : Bool). b || names_link e.0 es) (eq-eqb e.0 e.0 refl)

named_later : (i : ℕ) (e : LinkId) (es : List LinkId) → names_link i es ≡ true → names_link i (e ∷ es) ≡ true
named_later i e es named = or_true (e.0 == i) (names_link i es) named

joined : (g : Graph) (e x y : ℕ) → Survives g e → AreEnds g.links e x y → Joins g e x y
joined g e x y s ends =
    let same : ends.link ≡ s.link = cc (ends.at, s.at) in
    record { survives = s; ends = subst (λ (l : Link). HasEnds l x y) same ends.ends }

leads_alive : (g : Graph) (a : ℕ) (es : List LinkId) (cs : List ℕ) → ((e : ℕ) → names_link e es ≡ true → Survives g e) → Leads (AreEnds g.links) a es cs → Leads (Joins g) a es cs
leads_alive g a [] [] alive leads = tt
leads_alive g a (e ∷ es) (c ∷ cs) alive leads = (joined g e.0 a c (alive e.0 (named_first e es)) leads.0, leads_alive g c es cs (λ i named. alive i (named_later i e es named)) leads.1)
leads_alive g a [] (c ∷ cs) alive leads = absurd leads
leads_alive g a (e ∷ es) [] alive leads = absurd leads

path_alive : (g : Graph) (a b : ℕ) (es : List LinkId) → ((e : ℕ) → names_link e es ≡ true → Survives g e) → IsPath (AreEnds g.links) a b es → IsPath (Joins g) a b es
path_alive g a b es alive path = (path.0, leads_alive g a es path.0 alive path.1, path.2, path.3)

-- ---- a state

abbrev no_demand : Demand
no_demand = record { name = []; from = record { 0 = 0 }; to = record { 0 = 0 }; need = 0 }

module _ (p : Case) (caps : List ℕ) (s : ℕ) (flows : List LinkFlow) (routed : List Flow)
    (known : All (λ f. f.demand < length p.demands) flows) (split : AreSplitTo p flows (length p.demands) routed) (alive : AreAlive (graph_in p s) flows) (fit : FitInto caps flows) where
  abbrev demand_at : ℕ → Demand
  demand_at k = get_or p.demands k no_demand

  its_split : (k : ℕ) → k < length p.demands → IsFlowSplit p.links (demand_arcs k flows) (demand_at k).from.0 (demand_at k).to.0 (demand_at k).need (demand_paths k routed)
  its_split k lt = (split.each k (demand_at k) lt (slice_get-get_or p.demands k no_demand lt)).paths

  loaded : (e : ℕ) → load routed e ≤ flow_load flows e
  loaded e = loads_within (length p.demands) e routed flows split.early known (λ k lt. (its_split k lt).within e)

  -- the links of a flow have flow, and so survive
  links_alive : (i : ℕ) (d : Flow) → i < length routed → 0 < (get_or routed i d).num → (e : ℕ) → names_link e (get_or routed i d).path ≡ true → Survives (graph_in p s) e
  links_alive i d lt positive e named =
      let f = get_or routed i d in
      let one : cond (names_link e f.path) f.num 0 ≤ load routed e = get_or-le-sum_by (λ (x : Flow). cond (names_link e x.path) x.num 0) routed i d lt in
      let its : cond (names_link e f.path) f.num 0 ≡ f.num = ap (λ (b : Bool). cond b f.num 0) named in
      alive e (omega (arith, one, its, positive, loaded e))

  flow_is : (i : ℕ) (d : Flow) → i < length routed → IsFlow (Joins (graph_in p s)) p.demands (get_or routed i d)
  flow_is i d lt =
      let f = get_or routed i d in
      let k = f.demand in
      let within : k < length p.demands = split.early i d lt in
      let one = its_split k within in
      let here : (k == k) ≡ true = eq-eqb k k refl in
      let positive : 0 < f.num = each_passed (λ (x : PathFlow). 0 < x.num) as_path (λ (x : Flow). x.demand == k) routed i d lt here one.positive in
      let path : IsPath (AreEnds p.links) (demand_at k).from.0 (demand_at k).to.0 f.path = each_passed (λ (x : PathFlow). IsPath (AreEnds p.links) (demand_at k).from.0 (demand_at k).to.0 x.path) as_path (λ (x : Flow). x.demand == k) routed i d lt here one.paths in
      record {
        positive = positive;
        of = demand_at k;
        at = slice_get-get_or p.demands k no_demand within;
        path = path_alive (graph_in p s) (demand_at k).from.0 (demand_at k).to.0 f.path (links_alive i d lt positive) path;
      }

  state_carries : Carries (Joins (graph_in p s)) p.demands 1 caps (record { den = 1; flows = routed })
  state_carries = record {
    den = omega arith;
    flows = flow_is;
    met = λ k d at. omega (arith, (split.each k d (slice_get_within p.demands k d at) at).paths.met, sent_by k routed);
    within = λ e. omega (arith, loaded e, fit e);
  }

  pub state_imported : IsImportedState p caps s flows (record { den = 1; flows = routed })
  state_imported = record {
    whole = refl;
    sound = record { alive = alive; even = λ k d at. (split.each k d (slice_get_within p.demands k d at) at).even; fit = fit };
    split = λ k d at. (split.each k d (slice_get_within p.demands k d at) at).paths;
    carries = state_carries;
  }
