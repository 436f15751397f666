-- Sums over flows, in parts by their demands.
use Rattle.std.proofs.Common.{◌≡◌, ℕ, ◌+◌, ◌<◌, ◌≤◌, ◌==◌, Bool, true, false, cond, List, [], ◌∷◌, map, refl, sym, ap, ◌∙◌, arith, sum_by, All, filter, ne_eqb}
use Rattle.net_core.proofs.Library.{All-head, All-tail, recursion_from_All, sum_by-cons, below-le, below-one, below-same, below-swapped, sums-same}
use Rattle.plan_terms.specs.Terms.{sum_below, names_link, Flow, load}
use Rattle.path_split.{specs.declared.arc.Arc.Arc, specs.declared.arc.PathFlow.PathFlow, specs.Splits.{arc_load, path_load}}
use Rattle.flow_file.specs.declared.flow.LinkFlow.{LinkFlow}
use Rattle.flow_import.specs.Imports.{demand_arcs, demand_paths, flow_load}

-- a sum over what has a key
module _ {X Y : Type 0} (key : X → ℕ) (h : X → Y) (g : Y → ℕ) (k : ℕ) where
  one_more : (b : Bool) (x : X) (xs : List X) → sum_by g (map h (cond b (x ∷ xs) xs)) ≡ cond b (g (h x)) 0 + sum_by g (map h xs)
  one_more true x xs = sum_by-cons g (h x) (map h xs)
  one_more false x xs = omega arith

  pub picked_sum : (xs : List X) → sum_by g (map h (filter (λ x. key x == k) xs)) ≡ sum_by (λ x. cond (key x == k) (g (h x)) 0) xs
  picked_sum [] = refl
  picked_sum (x ∷ xs) =
      one_more (key x == k) x (filter (λ y. key y == k) xs)
      ∙ (ap (λ (n : ℕ). cond (key x == k) (g (h x)) 0 + n) (picked_sum xs)
      ∙ sym (sum_by-cons (λ y. cond (key y == k) (g (h y)) 0) x xs))

-- a sum over all, where keys are below n
parted : {X : Type 0} (key w : X → ℕ) (n : ℕ) (xs : List X) → All (λ x. key x < n) xs → sum_by w xs ≡ sum_below n (λ k. sum_by (λ x. cond (key x == k) (w x) 0) xs)
parted key w n xs all =
    sym (below-swapped n (λ k x. cond (key x == k) (w x) 0) xs
    ∙ sums-same (λ x. sum_below n (λ k. cond (key x == k) (w x) 0)) w (λ x. key x < n) xs (recursion_from_All (λ x. key x < n) xs all) (λ x lt. below-one n (key x) (λ k. w x) lt))

-- a path flow without its demand
abbrev pub as_path : Flow → PathFlow
as_path f = record { path = f.path; num = f.num }

-- what a path flow brings onto link e
abbrev on_path : ℕ → PathFlow → ℕ
on_path e f = cond (names_link e f.path) f.num 0

-- what an arc brings onto link e
abbrev on_arc : ℕ → Arc → ℕ
on_arc e a = cond (a.link.0 == e) a.num 0

load_parts : (n e : ℕ) (flows : List Flow) → All (λ f. f.demand < n) flows → load flows e ≡ sum_below n (λ k. path_load (demand_paths k flows) e)
load_parts n e flows all =
    parted (λ (f : Flow). f.demand) (λ (f : Flow). on_path e (as_path f)) n flows all
    ∙ below-same n (λ k. sum_by (λ (f : Flow). cond (f.demand == k) (on_path e (as_path f)) 0) flows) (λ k. path_load (demand_paths k flows) e) (λ k lt. sym (picked_sum (λ (f : Flow). f.demand) as_path (on_path e) k flows))

arcs_parts : (n e : ℕ) (flows : List LinkFlow) → All (λ f. f.demand < n) flows → flow_load flows e ≡ sum_below n (λ k. arc_load (demand_arcs k flows) e)
arcs_parts n e flows all =
    parted (λ (f : LinkFlow). f.demand) (λ (f : LinkFlow). on_arc e f.arc) n flows all
    ∙ below-same n (λ k. sum_by (λ (f : LinkFlow). cond (f.demand == k) (on_arc e f.arc) 0) flows) (λ k. arc_load (demand_arcs k flows) e) (λ k lt. sym (picked_sum (λ (f : LinkFlow). f.demand) (λ f. f.arc) (on_arc e) k flows))

-- where each demand's path flows over a link are within its arcs on it, all are within all
pub loads_within : (n e : ℕ) (routed : List Flow) (flows : List LinkFlow) → All (λ f. f.demand < n) routed → All (λ f. f.demand < n) flows
    → ((k : ℕ) → k < n → path_load (demand_paths k routed) e ≤ arc_load (demand_arcs k flows) e) → load routed e ≤ flow_load flows e
loads_within n e routed flows early known each =
    let p : load routed e ≡ sum_below n (λ k. path_load (demand_paths k routed) e) = load_parts n e routed early in
    let q : flow_load flows e ≡ sum_below n (λ k. arc_load (demand_arcs k flows) e) = arcs_parts n e flows known in
    let m : sum_below n (λ k. path_load (demand_paths k routed) e) ≤ sum_below n (λ k. arc_load (demand_arcs k flows) e) = below-le n (λ k. path_load (demand_paths k routed) e) (λ k. arc_load (demand_arcs k flows) e) each in
    omega (arith, p, q, m)

-- what the flows of a demand sum to
pub sent_by : (k : ℕ) (routed : List Flow) → sum_by (λ (f : PathFlow). f.num) (demand_paths k routed) ≡ sum_by (λ (f : Flow). cond (f.demand == k) f.num 0) routed
sent_by k routed = picked_sum (λ (f : Flow). f.demand) as_path (λ (f : PathFlow). f.num) k routed

-- no flow is on a link past the last
pub load_past : (n e : ℕ) (flows : List LinkFlow) → n ≤ e → All (λ f. f.arc.link.0 < n) flows → flow_load flows e ≡ 0
load_past n e [] past all = refl
load_past n e (f ∷ fs) past all =
    let lt : f.arc.link.0 < n = All-head (λ (x : LinkFlow). x.arc.link.0 < n) f fs all in
    let none : cond (f.arc.link.0 == e) f.arc.num 0 ≡ 0 = ap (λ (b : Bool). cond b f.arc.num 0) (ne_eqb f.arc.link.0 e (λ same. omega (arith, lt, past, same))) in
    let more : flow_load (f ∷ fs) e ≡ cond (f.arc.link.0 == e) f.arc.num 0 + flow_load fs e = sum_by-cons (λ (x : LinkFlow). cond (x.arc.link.0 == e) x.arc.num 0) f fs in
    omega (arith, none, more, load_past n e fs past (All-tail (λ (x : LinkFlow). x.arc.link.0 < n) f fs all))
