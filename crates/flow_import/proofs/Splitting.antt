-- One demand after another is split into flows along paths.
use Rattle.std.proofs.Common.{◌≡◌, ◌≢◌, ℕ, ◌+◌, ◌<◌, ◌≤◌, ◌==◌, Bool, cond, List, [], ◌∷◌, ◌++◌, length, map, Some, slice_get, take, get_or, Result, Err, IfErr, refl, sym, ap, subst, ◌∙◌, arith, append-nil, ⊎_elim, All, filter, eq-eqb, ne_eqb}
use Rattle.net_core.proofs.Library.{cases_eq, length-map, map-append, take_more, All-append, All-filter, All-head, All-map, All-tail, All-weaker, filter-append, count_by-le-length, length-filter, slice_get_within}
use Rattle.plan_terms.specs.Terms.{Case, Demand, Flow, NodeId, Link}
use Rattle.path_split.{specs.declared.arc.PathFlow.PathFlow, specs.declared.arc.SplitFault.SplitFault, specs.Balances.{IsArc, IsFirstUnbalanced}}
use Rattle.flow_file.{specs.FlowFiles.AreLinkFlows, specs.declared.flow.LinkFlow.LinkFlow}
use Rattle.flow_import.{specs.declared.fault.ImportFault.ImportFault, specs.declared.fault.ImportFault.TheVariants.{Dead, Unbalanced, Overloaded, NoMemory}, specs.Imports.{IsDemandEven, demand_arcs, demand_paths}, specs.inner.Steps.{AreSplitTo, IsOffFault, IsSplitDemand, IsSplitFault, flows_along}, proofs.Parts.as_path}
use Rattle.path_split.specs.declared.arc.SplitFault.TheVariants as splits

abbrev is_of : ℕ → Flow → Bool
is_of k f = f.demand == k

abbrev along : ℕ → PathFlow → Flow
along k f = record { demand = k; path = f.path; num = f.num }

-- the path flows of a demand's own flows
along_here : (k : ℕ) (ps : List PathFlow) → demand_paths k (flows_along k ps) ≡ ps
along_here k [] = refl
along_here k (f ∷ ps) =
    ap (λ (b : Bool). map as_path (cond b (along k f ∷ filter (is_of k) (flows_along k ps)) (filter (is_of k) (flows_along k ps)))) (eq-eqb k k refl)
    ∙ ap (λ (qs : List PathFlow). f ∷ qs) (along_here k ps)

-- and those of another demand
along_elsewhere : (j k : ℕ) (ps : List PathFlow) → k ≢ j → demand_paths j (flows_along k ps) ≡ []
along_elsewhere j k [] other = refl
along_elsewhere j k (f ∷ ps) other =
    ap (λ (b : Bool). map as_path (cond b (along k f ∷ filter (is_of j) (flows_along k ps)) (filter (is_of j) (flows_along k ps)))) (ne_eqb k j other)
    ∙ along_elsewhere j k ps other

paths_both : (k : ℕ) (xs ys : List Flow) → demand_paths k (xs ++ ys) ≡ demand_paths k xs ++ demand_paths k ys
paths_both k xs ys = ap (map as_path) (filter-append (is_of k) xs ys) ∙ map-append as_path (filter (is_of k) xs) (filter (is_of k) ys)

-- the flows of earlier demands alone
none_early : (k : ℕ) (xs : List Flow) → All (λ f. f.demand < k) xs → demand_paths k xs ≡ []
none_early k [] all = refl
none_early k (f ∷ xs) all =
    let lt : f.demand < k = All-head (λ (g : Flow). g.demand < k) f xs all in
    ap (λ (b : Bool). map as_path (cond b (f ∷ filter (is_of k) xs) (filter (is_of k) xs))) (ne_eqb f.demand k (λ e. omega (arith, lt, e)))
    ∙ none_early k xs (All-tail (λ (g : Flow). g.demand < k) f xs all)

all_along : (n k : ℕ) (ps : List PathFlow) → k < n → All (λ f. f.demand < n) (flows_along k ps)
all_along n k ps lt = All-map (λ (f : Flow). f.demand < n) (along k) ps (λ i d within. lt)

module _ (p : Case) (flows : List LinkFlow) where
  -- two demands of one place are the same
  same_demand : (k : ℕ) (d e : Demand) → slice_get p.demands k ≡ Some d → slice_get p.demands k ≡ Some e → e ≡ d
  same_demand k d e a b = cc (a, b)

  -- one demand more
  pub split_more : (n : ℕ) (d : Demand) (routed : List Flow) (split : List PathFlow) → slice_get p.demands n ≡ Some d → IsSplitDemand p flows d n split → AreSplitTo p flows n routed → AreSplitTo p flows (n + 1) (routed ++ flows_along n split)
  split_more n d routed split at is before =
      let new : List Flow = routed ++ flows_along n split in
      let here : demand_paths n new ≡ split = paths_both n routed (flows_along n split) ∙ (ap (λ (ps : List PathFlow). ps ++ demand_paths n (flows_along n split)) (none_early n routed before.early) ∙ along_here n split) in
      record {
        some = let lt = slice_get_within p.demands n d at in omega (arith, lt);
        early = All-append (λ (f : Flow). f.demand < n + 1) routed (flows_along n split) (All-weaker (λ (f : Flow). f.demand < n) (λ (f : Flow). f.demand < n + 1) (λ f lt. omega (arith, lt)) routed before.early) (all_along (n + 1) n split (omega arith));
        each = λ k e lt there. ⊎_elim
            (λ (same : k ≡ n).
            let one : e ≡ d = same_demand n d e at (subst (λ (i : ℕ). slice_get p.demands i ≡ Some e) same there) in
            subst (λ (i : ℕ). IsSplitDemand p flows e i (demand_paths i new)) (sym same)
            (subst (λ (x : Demand). IsSplitDemand p flows x n (demand_paths n new)) (sym one)
            (subst (λ (ps : List PathFlow). IsSplitDemand p flows d n ps) (sym here) is)))
            (λ (other : k ≢ n).
            let kept : demand_paths k new ≡ demand_paths k routed = paths_both k routed (flows_along n split) ∙ (ap (λ (ps : List PathFlow). demand_paths k routed ++ ps) (along_elsewhere k n split (λ e. other (sym e))) ∙ append-nil (demand_paths k routed)) in
            subst (λ (ps : List PathFlow). IsSplitDemand p flows e k ps) (sym kept) (before.each k e (omega (arith, lt, other)) there))
            (cases_eq k n);
      }

  -- what was split is balanced
  pub split_even : (n : ℕ) (routed : List Flow) → AreSplitTo p flows n routed → (k : ℕ) → k < n → IsDemandEven p flows k
  split_even n routed split k lt = λ d at. (split.each k d lt at).even

  pub all_even : (routed : List Flow) → AreSplitTo p flows (length p.demands) routed → (k : ℕ) → IsDemandEven p flows k
  all_even routed split k = λ d at. (split.each k d (slice_get_within p.demands k d at) at).even

  -- a demand that wasn't split is the first that isn't balanced
  pub off_fault : (s k : ℕ) (d : Demand) → slice_get p.demands k ≡ Some d → ((j : ℕ) → j < k → IsDemandEven p flows j) → (f : ImportFault) → IsSplitFault p s flows d k f → IsOffFault p s flows f
  off_fault s k d at before (Dead t e) is = absurd is
  off_fault s k d at before (Unbalanced t j n) is = (
    is.0,
    record {
      of = d;
      at = subst (λ (i : ℕ). slice_get p.demands i ≡ Some d) (sym is.1) at;
      first = subst (λ (i : ℕ). IsFirstUnbalanced (length p.nodes) p.links (demand_arcs i flows) d.from.0 d.to.0 d.need n.0) (sym is.1) is.2;
      before = subst (λ (i : ℕ). (j : ℕ) → j < i → IsDemandEven p flows j) (sym is.1) before;
    },
  )
  off_fault s k d at before (Overloaded t e) is = absurd is
  off_fault s k d at before NoMemory is = tt

-- ---- arcs

arcs_both : (k : ℕ) (xs ys : List LinkFlow) → demand_arcs k (xs ++ ys) ≡ demand_arcs k xs ++ demand_arcs k ys
arcs_both k xs ys =
    ap (map (λ (f : LinkFlow). f.arc)) (filter-append (λ (f : LinkFlow). f.demand == k) xs ys)
    ∙ map-append (λ (f : LinkFlow). f.arc) (filter (λ (f : LinkFlow). f.demand == k) xs) (filter (λ (f : LinkFlow). f.demand == k) ys)

-- arcs in form, at most as many as the flows
pub arcs_known : (links : List Link) (demands : List Demand) (flows : List LinkFlow) → AreLinkFlows links demands flows → (k : ℕ) → All (IsArc links) (demand_arcs k flows)
arcs_known links demands flows are k =
    All-map (IsArc links) (λ (f : LinkFlow). f.arc) (filter (λ (f : LinkFlow). f.demand == k) flows)
    (All-filter (λ (f : LinkFlow). f.demand == k) (λ (f : LinkFlow). IsArc links f.arc) flows (λ i d lt. (are.1 i d lt).arc))

pub arcs_few : (links : List Link) (demands : List Demand) (flows : List LinkFlow) → AreLinkFlows links demands flows → (k : ℕ) → length (demand_arcs k flows) ≤ 65536
arcs_few links demands flows are k =
    omega (arith, are.0, length-map (filter (λ (f : LinkFlow). f.demand == k) flows) (λ (f : LinkFlow). f.arc), length-filter (λ (f : LinkFlow). f.demand == k) flows, count_by-le-length (λ (f : LinkFlow). f.demand == k) flows)

-- one flow more
pub arcs_more : (k : ℕ) (flows : List LinkFlow) (i : ℕ) (f : LinkFlow) → i < length flows → f ≡ get_or flows i f → demand_arcs k (take (i + 1) flows) ≡ demand_arcs k (take i flows) ++ demand_arcs k (f ∷ [])
arcs_more k flows i f lt is =
    ap (demand_arcs k) (take_more flows i f lt ∙ ap (λ (x : LinkFlow). take i flows ++ x ∷ []) (sym is)) ∙ arcs_both k (take i flows) (f ∷ [])

-- one path more
pub along_more : (k : ℕ) (ps : List PathFlow) (i : ℕ) (f : PathFlow) → i < length ps → f ≡ get_or ps i f → flows_along k (take (i + 1) ps) ≡ flows_along k (take i ps) ++ flows_along k (f ∷ [])
along_more k ps i f lt is =
    ap (flows_along k) (take_more ps i f lt ∙ ap (λ (x : PathFlow). take i ps ++ x ∷ []) (sym is)) ∙ map-append (along k) (take i ps) (f ∷ [])

-- ---- what a call answered

pub unbalanced_at : {X : Type 0} (r : Result X SplitFault) (node : NodeId) (B : ℕ → Type 0) → r ≡ Err (splits.Unbalanced node) → IfErr r (λ fault. (n : ℕ) → fault ≡ splits.Unbalanced (record { 0 = n }) → B n) → B node.0
unbalanced_at {X} r node B e h = (subst (λ (q : Result X SplitFault). IfErr q (λ fault. (n : ℕ) → fault ≡ splits.Unbalanced (record { 0 = n }) → B n)) e h) node.0 refl
