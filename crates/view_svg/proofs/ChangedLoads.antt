-- loads of flows, one link after another
use Rattle.std.{proofs.Common.{◌≡◌, ℕ, ◌+◌, ◌*◌, ◌^◌, ◌≤◌, List, [], ◌∷◌, ◌++◌, if◌then◌else◌, arith, get_or, length, length-append, not, refl, slice_index, subst, sym, ⊎_elim, mul-le-mul}, proofs.lemmas.List.Filters.sum_by-filter_both}
use Rattle.net_core.proofs.Library.{cases_lt, get_or_past, slice_get-get_or, slice_get_within, list_any}
use Rattle.plan_terms.specs.Terms.{Case, Flow, Routing, capacities, load, names_link}
use Rattle.plan_types.specs.declared.plan.Plan.{Plan}
use Rattle.plan_view.{proofs.RowLists.pushed, specs.Terms.{IsCeiling, IsSoundPlan, den_in, goes_as, load_in}}
use Rattle.view_svg.specs.Changes.{AreRoundedLoads, changed_flows}

pub loads_none : (flows : List Flow) (den : ℕ) → AreRoundedLoads flows den 0 []
loads_none flows den = record { long = refl; each = λ e amount there. absurd (let lt = slice_get_within [] e amount there in omega (arith, lt)) }

pub loads_more : (flows : List Flow) (den n : ℕ) (amounts : List ℕ) (amount : ℕ) → AreRoundedLoads flows den n amounts → IsCeiling (load flows n) den amount
    → AreRoundedLoads flows den (n + 1) (amounts ++ amount ∷ [])
loads_more flows den n amounts amount are is = record {
  long = omega (arith, length-append amounts (amount ∷ []), are.long);
  each = λ e other there. ⊎_elim
      (λ h. are.each e other h)
      (λ h. let same : n ≡ e = omega (arith, h.0, are.long) in
      subst (λ i. IsCeiling (load flows i) den other) same (subst (λ x. IsCeiling (load flows n) den x) h.1 is))
      (pushed amounts amount e other there);
}

-- changed flows bring no more onto a link than all do
pub changed_load : (normal flows : List Flow) (e : ℕ) → load (changed_flows normal flows) e ≤ load flows e
changed_load normal flows e =
    let sums = sum_by-filter_both (λ f. list_any (λ g. goes_as f g) normal) (λ f. not (list_any (λ g. goes_as f g) normal)) (λ f. refl)
    (λ (f : Flow). (if names_link e f.path then f.num else 0)) flows in
    omega (arith, sums)

abbrev no_routing : Routing
no_routing = record { den = 0; flows = [] }

-- what a sound plan brings onto a link in a state is less than 2^46 units
pub load_within : (p : Case) (plan : Plan) → IsSoundPlan p plan → (s e : ℕ) → load_in plan.routings s e ≤ 2 ^ 46 * den_in plan.routings s
load_within p plan sound s e =
    let caps = capacities p.links plan.counts in
    let small : slice_index caps e ≤ 2 ^ 46 = ⊎_elim
    (λ lt. let low = sound.form.limits.small e 0 lt in omega (arith, low))
    (λ ge. let none = get_or_past caps e 0 ge in omega (arith, none))
    (cases_lt e (length caps)) in
    let product : slice_index caps e * den_in plan.routings s ≤ 2 ^ 46 * den_in plan.routings s = mul-le-mul small (omega arith) in
    ⊎_elim
    (λ lt. let within = (sound.carrying.each s (get_or plan.routings s no_routing) (slice_get-get_or plan.routings s no_routing lt)).within e in
    omega (arith, within, product))
    (λ ge. subst (λ (r : Routing). load r.flows e ≤ 2 ^ 46 * r.den) (sym (get_or_past plan.routings s no_routing ge)) (omega arith))
    (cases_lt s (length plan.routings))
