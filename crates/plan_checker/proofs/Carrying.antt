-- from what the tests find to what a plan carries
use Rattle.std.proofs.Common.{◌≡◌, ℕ, ◌*◌, ◌<◌, ◌≤◌, List, Some, All, length, get_or, ap, subst, arith, slice_get, ⊎_elim}
use Rattle.net_core.proofs.Library.{cases_eq, cases_lt, get_or_from_slice_get, slice_get_within, slice_get-get_or, get_some}
use Rattle.plan_terms.specs.Terms.{Case, graph_in, Joins, Routing, Carries, IsFlow, load, sent}
use Rattle.module_choice.{specs.inner.Routes.weight, proofs.Carrying.{load_is_weight, load_none}}
use Rattle.plan_report.specs.Terms.{known_to, AreRoutingsInForm, IsFlowInForm}
use Rattle.plan_checker.{specs.Carried.{IsOverloaded, IsUncarried}, specs.Shares.AreCarried, proofs.Places.holds_read, specs.inner.Routes.FollowPaths}

-- flows in form that follow paths are flows
pub are_flows : (p : Case) (routings : List Routing) → AreRoutingsInForm (known_to p) p.demands routings → FollowPaths p routings → (s : ℕ) (r : Routing) → slice_get routings s ≡ Some r → All (IsFlow (Joins (graph_in p s)) p.demands) r.flows
are_flows p routings form paths s r at k d lt =
    let same : get_or routings s r ≡ r = get_or_from_slice_get routings s r r at in
    let flow : IsFlowInForm p.links p.demands (get_or r.flows k d) = subst (λ (x : Routing). All (IsFlowInForm p.links p.demands) x.flows) same (form.each s r (slice_get_within routings s r at)).flows k d lt in
    let path = paths s r at k d lt in
    record { positive = omega (arith, flow.positive); of = path.of; at = path.at; path = path.path }

-- what such flows bring onto links
pub loads_are : (p : Case) (routings : List Routing) → AreRoutingsInForm (known_to p) p.demands routings → FollowPaths p routings → (s : ℕ) (d : Routing) → s < length routings → (e : ℕ) → load (get_or routings s d).flows e ≡ weight (get_or routings s d).flows e
loads_are p routings form paths s d lt e =
    load_is_weight (graph_in p s) p.demands (get_or routings s d).flows e (are_flows p routings form paths s (get_or routings s d) (slice_get-get_or routings s d lt))

-- routings whose flows follow paths, which are met and within numbers, carry the demands
pub carries_by : (p : Case) (scale : ℕ) (nums : List ℕ) (routings : List Routing) → length nums ≡ length p.links → AreRoutingsInForm (known_to p) p.demands routings → FollowPaths p routings
    → ((s k : ℕ) → IsUncarried p scale routings s k → ⊥) → ((s e : ℕ) → IsOverloaded nums routings s e → ⊥)
    → (s : ℕ) (r : Routing) → slice_get routings s ≡ Some r → Carries (Joins (graph_in p s)) p.demands scale nums r
carries_by p scale nums routings long form paths met within s r at =
    let flows = are_flows p routings form paths s r at in
    let same : get_or routings s r ≡ r = get_or_from_slice_get routings s r r at in
    let den : 1 ≤ r.den = subst (λ (x : Routing). 1 ≤ x.den) same (form.each s r (slice_get_within routings s r at)).positive in
    record {
      den = omega (arith, den);
      flows = flows;
      met = λ k d here. ⊎_elim
          (λ e. e)
          (λ other. absurd (met s k (record { item = r; at = at; holds = record { item = d; at = here; holds = other } })))
          (cases_eq (sent r.flows k) (d.need * scale * r.den));
      within = λ e. ⊎_elim
          (λ lt. ⊎_elim
          (λ over. absurd (within s e (record { item = r; at = at; holds = holds_read nums (λ j n. n * r.den < load r.flows j) e 0 lt over })))
          (λ le. le)
          (cases_lt (get_or nums e 0 * r.den) (load r.flows e)))
          (λ ge.
          let none = load_none (graph_in p s) p.demands r.flows e flows (λ v. let inside : e < length p.links = slice_get_within p.links e v.link v.at in absurd (omega (arith, inside, ge, long))) in
          omega (arith, none))
          (cases_lt e (length nums));
    }

module _ (p : Case) (scale : ℕ) (nums : List ℕ) (routings : List Routing) (form : AreRoutingsInForm (known_to p) p.demands routings) where
  pub carried_by : length nums ≡ length p.links → FollowPaths p routings → ((s k : ℕ) → IsUncarried p scale routings s k → ⊥) → ((s e : ℕ) → IsOverloaded nums routings s e → ⊥) → AreCarried p scale nums routings
  carried_by long paths met within s le =
      let r = get_some routings s (omega (arith, le, form.long)) in
      record { item = r.0; at = r.1; holds = carries_by p scale nums routings long form paths met within s r.0 r.1 }

  module _ (carried : AreCarried p scale nums routings) where
    carried_at : (s : ℕ) (r : Routing) → slice_get routings s ≡ Some r → Carries (Joins (graph_in p s)) p.demands scale nums r
    carried_at s r at =
        let h = carried s (let lt = slice_get_within routings s r at in omega (arith, lt, form.long)) in
        let same : h.item ≡ r = cc (at, h.at) in
        subst (Carries (Joins (graph_in p s)) p.demands scale nums) same h.holds

    pub not_unmet : (s k : ℕ) → IsUncarried p scale routings s k → ⊥
    not_unmet s k h = h.holds.holds ((carried_at s h.item h.at).met k h.holds.item h.holds.at)

    pub not_over : (s e : ℕ) → IsOverloaded nums routings s e → ⊥
    not_over s e h =
        let within = (carried_at s h.item h.at).within e in
        let same : get_or nums e 0 ≡ h.holds.item = get_or_from_slice_get nums e h.holds.item 0 h.holds.at in
        let over : h.holds.item * h.item.den < load h.item.flows e = h.holds.holds in
        omega (arith, within, ap (λ n. n * h.item.den) same, over)
