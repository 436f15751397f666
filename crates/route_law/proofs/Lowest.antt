-- routings over a smaller denominator
use Rattle.std.proofs.Common.{◌≡◌, ℕ, zero, suc, ◌*◌, ◌<◌, ◌≤◌, List, [], ◌∷◌, All, Bool, true, false, cond, eqb, map, sum_by, slice_index, refl, sym, ap, ◌∙◌, arith}
use Rattle.net_core.proofs.Library.{sum_by-cons, recursion_from_All, All-from_recursion, le_of_mul-le-mul_left, AllByRecursion}
use Rattle.plan_terms.specs.Terms.{Demand, Flow, Routing, names_link, sent, load, IsFlow, Carries}
use Rattle.route_law.specs.Routings.{flow_times, over_times}

-- a sum over flows that a test picks
picked : (d : ℕ) (test : Flow → Bool) (flows : List Flow) → ((f : Flow) → test (flow_times d f) ≡ test f)
    → sum_by (λ f. cond (test f) f.num 0) (map (flow_times d) flows) ≡ d * sum_by (λ f. cond (test f) f.num 0) flows
picked d test [] same = omega arith
picked d test (f ∷ fs) same =
    let one : cond (test (flow_times d f)) (d * f.num) 0 ≡ d * cond (test f) f.num 0 = ap (λ b. cond b (d * f.num) 0) (same f) ∙ elim (test f) as (λ b. cond b (d * f.num) 0 ≡ d * cond b f.num 0) [ true ↦ refl | false ↦ omega arith ] in
    omega (arith, sum_by-cons (λ (g : Flow). cond (test g) g.num 0) (flow_times d f) (map (flow_times d) fs), ap (λ s. d * s) (sum_by-cons (λ (g : Flow). cond (test g) g.num 0) f fs), one, picked d test fs same)

pub sent_times : (d : ℕ) (flows : List Flow) (k : ℕ) → sent (map (flow_times d) flows) k ≡ d * sent flows k
sent_times d flows k = picked d (λ f. eqb f.demand k) flows (λ f. refl)

pub load_times : (d : ℕ) (flows : List Flow) (e : ℕ) → load (map (flow_times d) flows) e ≡ d * load flows e
load_times d flows e = picked d (λ f. names_link e f.path) flows (λ f. refl)

module _ (joins : ℕ → ℕ → ℕ → Type 0) (demands : List Demand) where
  flow_less : (d : ℕ) → (f : Flow) → IsFlow joins demands (flow_times d f) → IsFlow joins demands f
  flow_less d f is = record { positive = some f.num is.positive; of = is.of; at = is.at; path = is.path }
    where
      some : (n : ℕ) → 0 < d * n → 0 < n
      some zero h = absurd (omega (arith, h))
      some (suc n) h = omega arith

  flows_less : (d : ℕ) → (flows : List Flow) → All (IsFlow joins demands) (map (flow_times d) flows) → All (IsFlow joins demands) flows
  flows_less d flows all = All-from_recursion (IsFlow joins demands) flows (go flows (recursion_from_All (IsFlow joins demands) (map (flow_times d) flows) all))
    where
      go : (fs : List Flow) → AllByRecursion (IsFlow joins demands) (map (flow_times d) fs) → AllByRecursion (IsFlow joins demands) fs
      go [] h = tt
      go (f ∷ fs) h = (flow_less d f h.0, go fs h.1)

  -- a routing may be brought to lowest terms
  pub carried_lowest : (d scale : ℕ) (nums : List ℕ) (r : Routing) → 0 < d → Carries joins demands scale nums (over_times d r) → Carries joins demands scale nums r
  carried_lowest d scale nums r pd c = record {
    den = some r.den c.den;
    flows = flows_less d r.flows c.flows;
    met = λ k w at. cancel (sent r.flows k) (w.need * scale * r.den) (sym (sent_times d r.flows k) ∙ (c.met k w at ∙ omega arith));
    within = λ e. let m : d * load r.flows e ≤ d * (slice_index nums e * r.den) = omega (arith, c.within e, load_times d r.flows e) in le_of_mul-le-mul_left m pd;
  }
    where
      some : (n : ℕ) → 0 < d * n → 0 < n
      some zero h = absurd (omega (arith, h))
      some (suc n) h = omega arith

      cancel : (a b : ℕ) → d * a ≡ d * b → a ≡ b
      cancel a b e =
          let x : a ≤ b = le_of_mul-le-mul_left (omega (arith, e)) pd in
          let y : b ≤ a = le_of_mul-le-mul_left (omega (arith, e)) pd in
          omega (arith, x, y)
