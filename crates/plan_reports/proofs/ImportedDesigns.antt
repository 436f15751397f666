-- an imported design is sound
use Rattle.std.proofs.Common.{◌≡◌, ◌∙◌, ℕ, ◌+◌, ◌*◌, ◌^◌, ◌<◌, ◌≤◌, ◌==◌, Bool, cond, List, [], ◌∷◌, Some, get_or, length, map, slice_get, refl, sym, ap, subst, arith, sum_by, All, filter, eq-eqb}
use Rattle.net_core.proofs.Library.{∥∥₁_elim, props, get_or_default, All-weaker, recursion_from_All, get_or-le-sum_by, sum_by-cons, get_or_from_slice_get, slice_get-get_or, slice_get_within, below-le, below-one, below-same, below-swapped, sums-same}
use Rattle.plan_terms.specs.Terms.{Demand, Flow, Routing, Case, graph_in, AreDemands, Joins, IsNetwork, sum_below, AreCounts, AreWithinLimits, capacities, total_cost, Carries, sent}
use Rattle.plan_report.specs.Terms.{IsFlowInForm, IsRoutingInForm, known_to, Plan}
use Rattle.acceptance.proofs.Lemmas.{cost_low, of_list, path_in_form}
use Rattle.flow_file.{specs.declared.flow.FlowFile.FlowFile, specs.declared.flow.LinkFlow.LinkFlow, specs.FlowFiles.{AreLinkFlows, IsFlowFile, IsLinkFlow}}
use Rattle.flow_import.{specs.Imports.{IsImported, IsImportedState, demand_arcs, demand_paths, flows_in, no_routing}, specs.declared.imported.Imported.Imported, proofs.Parts.{as_path, picked_sum}}
use Rattle.plan_reports.specs.LonePlans.{IsSoundDesign, redesigned_plan}

-- ---- as many flows as the file has at most

ones : {X : Type 0} (xs : List X) → sum_by (λ x. 1) xs ≡ length xs
ones [] = refl
ones (x ∷ xs) = let more = sum_by-cons (λ y. 1) x xs in omega (arith, more, ones xs)

-- a list is as long as its parts by keys below n
module _ {X Y : Type 0} (key : X → ℕ) (h : X → Y) (n : ℕ) (xs : List X) (low : All (λ x. key x < n) xs) where
  part_sum : (k : ℕ) → sum_by (λ x. cond (key x == k) 1 0) xs ≡ length (map h (filter (λ x. key x == k) xs))
  part_sum k = sym (picked_sum key h (λ y. 1) k xs) ∙ ones (map h (filter (λ x. key x == k) xs))

  parts_length : length xs ≡ sum_below n (λ k. length (map h (filter (λ x. key x == k) xs)))
  parts_length =
      sym (ones xs)
      ∙ (sym (below-swapped n (λ k x. cond (key x == k) 1 0) xs
      ∙ sums-same (λ x. sum_below n (λ k. cond (key x == k) 1 0)) (λ x. 1) (λ x. key x < n) xs (recursion_from_All (λ x. key x < n) xs low) (λ x lt. below-one n (key x) (λ k. 1) lt))
      ∙ below-same n (λ k. sum_by (λ x. cond (key x == k) 1 0) xs) (λ k. length (map h (filter (λ x. key x == k) xs))) (λ k lt. part_sum k))

few_flows : (n : ℕ) (routed : List Flow) (flows : List LinkFlow) → All (λ f. f.demand < n) routed → All (λ f. f.demand < n) flows
    → ((k : ℕ) → k < n → length (demand_paths k routed) ≤ length (demand_arcs k flows)) → length routed ≤ length flows
few_flows n routed flows early known each =
    let a = parts_length (λ (f : Flow). f.demand) as_path n routed early in
    let b = parts_length (λ (f : LinkFlow). f.demand) (λ f. f.arc) n flows known in
    let m = below-le n (λ k. length (demand_paths k routed)) (λ k. length (demand_arcs k flows)) each in
    omega (arith, a, b, m)

-- ---- a state

abbrev no_demand : Demand
no_demand = record { name = []; from = record { 0 = 0 }; to = record { 0 = 0 }; need = 0 }

module _ (p : Case) (belong : AreDemands (length p.nodes) p.demands) (caps : List ℕ) (s : ℕ) (flows : List LinkFlow) (routing : Routing)
    (known : AreLinkFlows p.links p.demands flows) (is : IsImportedState p caps s flows routing) where
  flow_form : (i : ℕ) (d : Flow) → i < length routing.flows → IsFlowInForm p.links p.demands (get_or routing.flows i d)
  flow_form i d lt =
      let f = get_or routing.flows i d in
      let flow = is.carries.flows i d lt in
      let of = of_list (graph_in p s) p.demands belong f.demand flow.of flow.at in
      let one : cond (f.demand == f.demand) f.num 0 ≤ sent routing.flows f.demand = get_or-le-sum_by (λ (x : Flow). cond (x.demand == f.demand) x.num 0) routing.flows i d lt in
      let its : cond (f.demand == f.demand) f.num 0 ≡ f.num = ap (λ (b : Bool). cond b f.num 0) (eq-eqb f.demand f.demand refl) in
      let met : sent routing.flows f.demand ≡ flow.of.need * 1 * routing.den = is.carries.met f.demand flow.of flow.at in
      let whole : flow.of.need * 1 * routing.den ≡ flow.of.need * 1 * 1 = ap (λ (n : ℕ). flow.of.need * 1 * n) is.whole in
      let need = of.need in
      let some = flow.positive in
      record {
        demand = slice_get_within p.demands f.demand flow.of flow.at;
        positive = omega (arith, some);
        num = omega (arith, one, its, met, whole, need);
        path = path_in_form (graph_in p s) flow.of.from.0 flow.of.to.0 of.different f.path flow.path;
      }

  state_form : IsRoutingInForm p.links p.demands routing
  state_form =
      let whole = is.whole in
      let few = few_flows (length p.demands) routing.flows flows
      (λ i d lt. (flow_form i d lt).demand)
      (All-weaker (IsLinkFlow p.links p.demands) (λ f. f.demand < length p.demands) (λ f known. known.demand) flows known.1)
      (λ k lt. (is.split k (get_or p.demands k no_demand) (slice_get-get_or p.demands k no_demand lt)).few) in
      let most = known.0 in
      record { positive = omega (arith, whole); den = omega (arith, whole); few = omega (arith, few, most); flows = flow_form }

-- ---- all states

module _ (p : Case) (net : ∥ IsNetwork p.nodes p.links ∥₁) (belong : AreDemands (length p.nodes) p.demands) (file : FlowFile) (form : IsFlowFile (known_to p) p.demands file)
    (plan : Plan) (i : Imported) (is : IsImported p file i) where
  abbrev routing_at : ℕ → Routing
  routing_at s = get_or i.routings s no_routing

  its_flows : (s : ℕ) → s ≤ length p.listed → AreLinkFlows p.links p.demands (flows_in file.flows s)
  its_flows s le = let long : length file.flows ≡ length p.listed + 1 = form.states in form.each s [] (omega (arith, le, long))

  each_form : (s : ℕ) (d : Routing) → s < length i.routings → IsRoutingInForm p.links p.demands (get_or i.routings s d)
  each_form s d lt =
      let long = is.states in
      let le : s ≤ length p.listed = omega (arith, lt, long) in
      subst (IsRoutingInForm p.links p.demands) (get_or_default i.routings s no_routing d lt)
      (state_form p belong (capacities p.links file.counts) s (flows_in file.flows s) (routing_at s) (its_flows s le) (is.each s le))

  each_carries : (s : ℕ) (r : Routing) → slice_get i.routings s ≡ Some r → Carries (Joins (graph_in p s)) p.demands 1 (capacities p.links i.counts) r
  each_carries s r at =
      let lt = slice_get_within i.routings s r at in
      let long = is.states in
      subst (λ counts. Carries (Joins (graph_in p s)) p.demands 1 (capacities p.links counts) r) (sym is.counts)
      (subst (Carries (Joins (graph_in p s)) p.demands 1 (capacities p.links file.counts)) (get_or_from_slice_get i.routings s r no_routing at)
      (is.each s (omega (arith, lt, long))).carries)

  low_cost : i.cost < 2 ^ 126
  low_cost = subst (λ n. n < 2 ^ 126) (sym is.cost) (∥∥₁_elim net (hlevel props) (λ n. cost_low p.nodes p.links file.counts n form.limits.few))

  pub sound_design : IsSoundDesign p (redesigned_plan plan i.counts i.cost i.routings)
  sound_design = record {
    shape = subst (AreCounts p.links) (sym is.counts) form.counts;
    limits = subst (AreWithinLimits p.links) (sym is.counts) form.limits;
    low = low_cost;
    form = record { long = is.states; each = each_form };
    carrying = record { states = is.states; each = each_carries };
    costed = is.cost ∙ ap (total_cost p.links) (sym is.counts);
  }
