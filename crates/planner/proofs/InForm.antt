-- the plan of a fallback plan and a certified bound is in form and in lowest terms
use Rattle.std.proofs.Common.{◌≡◌, ◌≢◌, ℕ, ◌+◌, ◌*◌, ◌^◌, ◌<◌, ◌≤◌, Bool, true, false, if◌then◌else◌, List, [], ◌∷◌, ◌++◌, All, AllPairs, Some, get_or, length, slice_get, sym, subst, arith, zip, append_assoc}
use Rattle.net_core.proofs.Library.{◌∣◌, eq-one_of_dvd-one, All-weaker, All-head, All-tail, sum_by-cons, slice_get_within, get_or_from_slice_get, new_name}
use Rattle.plan_terms.{specs.Terms.{Demand, LinkId, Link, Module, Flow, Routing, AreDemands, IsDemand, Graph, Joins, IsLink, IsModule, IsNetwork, installs, link_cost, modules_cost, total_cost, IsLeastFlow, IsLeastRouting, IsPath, Leads, last_node}, proofs.Lemmas.{path_links_known, product_below}}
use Rattle.module_choice.proofs.Carrying.{ordered_at}
use Rattle.plan_report.specs.Terms.{IsDemandInForm, IsFlowInForm, IsPathInForm, IsRoutingInForm}
use Rattle.route_law.specs.Terms.{IsLowestRouting}
use Rattle.text_kit.specs.Terms.{ComeAfter}

-- ---- paths

module _ (g : Graph) where
  -- a path between two different nodes has a link
  path_some : (a b : ℕ) → a ≢ b → (es : List LinkId) (cs : List ℕ) → Leads (Joins g) a es cs → last_node a cs ≡ b → 1 ≤ length es
  path_some a b ne [] [] leads last = absurd (ne last)
  path_some a b ne [] (c ∷ cs) leads last = absurd leads
  path_some a b ne (e ∷ es) cs leads last = omega arith

  pub path_in_form : (a b : ℕ) → a ≢ b → (es : List LinkId) → IsPath (Joins g) a b es → IsPathInForm g.links es
  path_in_form a b ne es path = record {
    some = path_some a b ne es path.0 path.1 path.2;
    known = path_links_known g a b es path;
  }

-- ---- routings

few_flows : (n : ℕ) (flows : List Flow) → AllPairs (λ x y. x.demand < y.demand) flows → All (λ f. f.demand < n) flows → length flows ≤ n
few_flows n [] up all = omega arith
few_flows n (f ∷ fs) up all =
    let last = ordered_at (f ∷ fs) (length fs) f up (omega arith) in
    let below : (get_or (f ∷ fs) (length fs) f).demand < n = all (length fs) f (omega arith) in
    omega (arith, last, below)

module _ (g : Graph) (demands : List Demand) (belong : AreDemands (length g.nodes) demands) where
  pub of_list : (k : ℕ) (d : Demand) → slice_get demands k ≡ Some d → IsDemand (length g.nodes) d
  of_list k d at = subst (IsDemand (length g.nodes)) (get_or_from_slice_get demands k d d at) (belong.each k d (slice_get_within demands k d at))

  flow_in_form : (lengths : List ℕ) (f : Flow) → IsLeastFlow (Joins g) lengths demands f → IsFlowInForm g.links demands f
  flow_in_form lengths f least =
      let d = of_list f.demand least.of least.at in
      let same = least.num in
      let some = least.positive in
      let need = d.need in
      record {
        demand = slice_get_within demands f.demand least.of least.at;
        positive = omega (arith, same, some);
        num = omega (arith, same, need);
        path = path_in_form g least.of.from.0 least.of.to.0 d.different f.path least.path.path;
      }

  pub routing_in_form : (lengths : List ℕ) (r : Routing) → IsLeastRouting (Joins g) lengths demands r → IsRoutingInForm g.links demands r
  routing_in_form lengths r least =
      let flows = All-weaker (IsLeastFlow (Joins g) lengths demands) (IsFlowInForm g.links demands) (flow_in_form lengths) r.flows least.each in
      let whole = least.whole in
      let few = few_flows (length demands) r.flows least.ordered (All-weaker (IsFlowInForm g.links demands) (λ f. f.demand < length demands) (λ f is. is.demand) r.flows flows) in
      let most = belong.few in
      record { positive = omega (arith, whole); den = omega (arith, whole); few = omega (arith, few, most); flows = flows }

pub lowest_whole : (r : Routing) → r.den ≡ 1 → IsLowestRouting r
lowest_whole r whole d in_den all = eq-one_of_dvd-one (subst (λ n. d ∣ n) whole in_den)

-- ---- demands

after_each : (nodes : List (List ℕ)) (sofar rest : List Demand) → AllPairs (λ x y. x.name ≢ y.name) (sofar ++ rest) → All (IsDemand (length nodes)) rest → All (λ d. length d.name ≤ 255) rest → ComeAfter (IsDemandInForm nodes) sofar rest
after_each nodes sofar [] different each named = tt
after_each nodes sofar (d ∷ ds) different each named =
    let is = All-head (IsDemand (length nodes)) d ds each in (
      record {
        short = All-head (λ (x : Demand). length x.name ≤ 255) d ds named;
        new = new_name (λ (x : Demand). x.name) sofar d ds different;
        from = is.from_known;
        to = is.to_known;
        need = is.need;
      },
      after_each nodes (sofar ++ d ∷ []) ds
          (subst (AllPairs (λ (x y : Demand). x.name ≢ y.name)) (sym (append_assoc sofar (d ∷ []) ds)) different)
          (All-tail (IsDemand (length nodes)) d ds each)
          (All-tail (λ (x : Demand). length x.name ≤ 255) d ds named),
    )

pub demands_in_form : (nodes : List (List ℕ)) (demands : List Demand) → AreDemands (length nodes) demands → All (λ d. length d.name ≤ 255) demands → ComeAfter (IsDemandInForm nodes) [] demands
demands_in_form nodes demands belong named = after_each nodes [] demands belong.different belong.each named

-- ---- costs

modules_low : (modules : List Module) (counts : List ℕ) → All IsModule modules → All (λ n. n < 2 ^ 44) counts → modules_cost modules counts ≤ length modules * 2 ^ 84
modules_low [] counts each few = omega arith
modules_low (m ∷ ms) [] each few = omega arith
modules_low (m ∷ ms) (n ∷ ns) each few =
    let one = product_below m.cost n (2 ^ 40) (2 ^ 44) (All-head IsModule m ms each).cost (omega arith) (All-head (λ x. x < 2 ^ 44) n ns few) in
    let rest = modules_low ms ns (All-tail IsModule m ms each) (All-tail (λ x. x < 2 ^ 44) n ns few) in
    let all = sum_by-cons (λ (p : Module × ℕ). p.0.cost * p.1) (m, n) (zip ms ns) in
    omega (arith, one, rest, all)

-- the setup is added at most once
setup_once : (cost setup : ℕ) (installed : Bool) → cost + (if installed then setup else 0) ≤ cost + setup
setup_once cost setup true = omega arith
setup_once cost setup false = omega arith

links_low : (nodes : ℕ) (links : List Link) (counts : List (List ℕ)) → All (IsLink nodes) links → All (λ c. All (λ n. n < 2 ^ 44) c) counts → total_cost links counts ≤ length links * 2 ^ 89
links_low nodes [] counts each few = omega arith
links_low nodes (l ∷ ls) [] each few = omega arith
links_low nodes (l ∷ ls) (c ∷ cs) each few =
    let is = All-head (IsLink nodes) l ls each in
    let one = modules_low l.modules c is.each (All-head (λ (x : List ℕ). All (λ n. n < 2 ^ 44) x) c cs few) in
    let rest = links_low nodes ls cs (All-tail (IsLink nodes) l ls each) (All-tail (λ (x : List ℕ). All (λ n. n < 2 ^ 44) x) c cs few) in
    let all = sum_by-cons (λ (p : Link × List ℕ). link_cost p.0 p.1) (l, c) (zip ls cs) in
    let most : length l.modules * 2 ^ 84 ≤ 2 ^ 88 = omega (arith, is.few) in
    omega (arith, one, rest, all, most, is.setup, setup_once (modules_cost l.modules c) l.setup (installs c))

pub cost_low : (nodes : List (List ℕ)) (links : List Link) (counts : List (List ℕ)) → IsNetwork nodes links → All (λ c. All (λ n. n < 2 ^ 44) c) counts → total_cost links counts < 2 ^ 126
cost_low nodes links counts net few =
    let all = links_low (length nodes) links counts net.sound few in
    let links_few = net.few_links in
    let most : length links * 2 ^ 89 ≤ 2 ^ 97 = omega (arith, links_few) in
    omega (arith, all, most)
