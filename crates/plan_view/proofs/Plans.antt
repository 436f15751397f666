-- what is known of the routings of a sound plan
use Rattle.std.{proofs.Common.{◌≡◌, ℕ, ◌+◌, ◌*◌, ◌^◌, ◌<◌, ◌≤◌, ◌==◌, ◌&&◌, Bool, true, false, if◌then◌else◌, List, [], All, None, zip, get_or, length, sym, ap, ◌∙◌, subst, arith, slice_index, ⊎_elim, mul-le-mul, eq-eqb, ne_eqb}, proofs.lemmas.List.Sums.sum_by-le-sum_by}
use Rattle.net_core.{proofs.Library.{cases_eq, cases_lt, get_or-map, get_or_default, get_or-zip, get_or_past, length-zip, props, slice_get-get_or, ∥∥₁_elim, pointwise, modules_sound, all_at}, specs.States.IsStateList}
use Rattle.module_choice.proofs.Pairs.{capacities_long, counts_long, counts_shape}
use Rattle.plan_terms.specs.Terms.{AreDemands, Case, Carries, Flow, IsDemand, IsFlow, IsModule, IsNetwork, Joins, Link, Listed, Routing, capacities, graph_in, load, modules_capacity, raw_value, sent}
use Rattle.plan_types.{specs.Terms.lines_of_certificate, specs.declared.plan.Plan.Plan}
use Rattle.plan_view.{specs.Loads.{IsFullestLink, den_in, load_in, routing_in}, specs.Parts.paid_by, specs.Reroutes.{brought, goes_as, rerouted}, specs.Rounding.{IsCeiling, IsNearest}, specs.Rows.{IsStateRow, IsUseOf, failed_links}, specs.Sound.IsSoundPlan, specs.declared.rows.StateRow.StateRow, specs.inner.Lines.{asked_among, given_among}, specs.inner.LowRoutings.IsLowRouting, proofs.LineSums.{asked_is, given_is}}

abbrev no_routing : Routing
no_routing = record { den = 0; flows = [] }

-- both tests hold at most where the first does
both_le : (b c : Bool) (n : ℕ) → (if b && c then n else 0) ≤ (if b then n else 0)
both_le true true n = omega arith
both_le true false n = omega arith
both_le false c n = omega arith

turned : (a b : ℕ) → (a == b) ≡ (b == a)
turned a b = ⊎_elim
    (λ e. eq-eqb a b e ∙ sym (eq-eqb b a (sym e)))
    (λ n. ne_eqb a b n ∙ sym (ne_eqb b a (λ e. n (sym e))))
    (cases_eq a b)

-- what flows bring along one path of a demand is within what they bring of it
pub brought_sent : (flows : List Flow) (f : Flow) → brought flows f ≤ sent flows f.demand
brought_sent flows f =
    sum_by-le-sum_by (λ (g : Flow). (if goes_as f g then g.num else 0)) (λ (g : Flow). (if g.demand == f.demand then g.num else 0)) flows
    (λ g. subst (λ b. (if goes_as f g then g.num else 0) ≤ (if b then g.num else 0)) (turned f.demand g.demand) (both_le (f.demand == g.demand) (pointwise (λ x y. x.0 == y.0) f.path g.path) g.num))

-- a failure list has at most 256 states
pub few_listed : (listed : List Listed) → ∥ IsStateList listed ∥₁ → length listed ≤ 256
few_listed listed checked = ∥∥₁_elim checked (hlevel props) (λ states. states.few)

module _ (p : Case) (plan : Plan) (sound : IsSoundPlan p plan) where
  past : (s : ℕ) → length plan.routings ≤ s → routing_in plan.routings s ≡ no_routing
  past s ge = get_or_past plan.routings s no_routing ge

  pub den_low : (s : ℕ) → den_in plan.routings s < 2 ^ 62
  den_low s = ⊎_elim
      (λ lt. (sound.form.routings.each s no_routing lt).den)
      (λ ge. subst (λ (r : Routing). r.den < 2 ^ 62) (sym (past s ge)) (omega arith))
      (cases_lt s (length plan.routings))

  pub den_positive : (s : ℕ) → s < length plan.routings → 0 < den_in plan.routings s
  den_positive s lt = let some = (sound.form.routings.each s no_routing lt).positive in omega (arith, some)

  pub few_flows : (s : ℕ) → s < length plan.routings → length (routing_in plan.routings s).flows ≤ 2 ^ 16
  few_flows s lt = let few = (sound.form.routings.each s no_routing lt).few in omega (arith, few)

  pub carry_at : (s : ℕ) → s < length plan.routings → Carries (Joins (graph_in p s)) p.demands 1 (capacities p.links plan.counts) (routing_in plan.routings s)
  carry_at s lt = sound.carrying.each s (get_or plan.routings s no_routing) (slice_get-get_or plan.routings s no_routing lt)

  pub load_within : (s e : ℕ) → load_in plan.routings s e ≤ get_or (capacities p.links plan.counts) e 0 * den_in plan.routings s
  load_within s e = ⊎_elim
      (λ lt. (carry_at s lt).within e)
      (λ ge. subst (λ (r : Routing). load r.flows e ≤ get_or (capacities p.links plan.counts) e 0 * r.den) (sym (past s ge)) (omega arith))
      (cases_lt s (length plan.routings))

  pub capacity_low : (e : ℕ) → get_or (capacities p.links plan.counts) e 0 < 2 ^ 46
  capacity_low e = ⊎_elim
      (λ lt. sound.form.limits.small e 0 lt)
      (λ ge. let none = get_or_past (capacities p.links plan.counts) e 0 ge in omega (arith, none))
      (cases_lt e (length (capacities p.links plan.counts)))

  pub load_low : (s e : ℕ) → load_in plan.routings s e ≤ 2 ^ 108
  load_low s e =
      let capacity : get_or (capacities p.links plan.counts) e 0 ≤ 2 ^ 46 = omega (arith, capacity_low e) in
      let den : den_in plan.routings s ≤ 2 ^ 62 = omega (arith, den_low s) in
      let product : get_or (capacities p.links plan.counts) e 0 * den_in plan.routings s ≤ 2 ^ 46 * 2 ^ 62 = mul-le-mul capacity den in
      omega (arith, product, load_within s e)

  -- what a routing brings of a known demand along a path
  pub brought_low : (n : ℕ) → AreDemands n p.demands → (s k : ℕ) (d : Flow) → s < length plan.routings → k < length plan.routings → (i : ℕ) → i < length (routing_in plan.routings s).flows
      → brought (routing_in plan.routings k).flows (get_or (routing_in plan.routings s).flows i d) ≤ 2 ^ 102
  brought_low n are s k d lt inside i in_list =
      let f = get_or (routing_in plan.routings s).flows i d in
      let flow : IsFlow (Joins (graph_in p s)) p.demands f = (carry_at s lt).flows i d in_list in
      let met : sent (routing_in plan.routings k).flows f.demand ≡ flow.of.need * 1 * den_in plan.routings k = (carry_at k inside).met f.demand flow.of flow.at in
      let demand : IsDemand n flow.of = all_at (IsDemand n) p.demands f.demand flow.of are.each flow.at in
      let need : flow.of.need ≤ 2 ^ 40 = omega (arith, demand.need) in
      let den : den_in plan.routings k ≤ 2 ^ 62 = omega (arith, den_low k) in
      let product : flow.of.need * den_in plan.routings k ≤ 2 ^ 40 * 2 ^ 62 = mul-le-mul need den in
      omega (arith, brought_sent (routing_in plan.routings k).flows f, met, product)

  -- the routing of each state is low
  pub low_at : (s : ℕ) → s < length plan.routings → IsLowRouting (capacities p.links plan.counts) (routing_in plan.routings s)
  low_at s lt = record {
    few = few_flows s lt;
    positive = den_positive s lt;
    den = den_low s;
    within = λ e. load_within s e;
    low = λ e. omega (arith, load_low s e);
  }

  -- all capacities are
  pub small_capacities : All (λ n. n < 2 ^ 46) (capacities p.links plan.counts)
  small_capacities e d lt = sound.form.limits.small e d lt

  -- there is a routing for each state, in one form or another
  pub state_within : (s : ℕ) → s ≤ length p.listed → s < length plan.routings
  state_within s le = omega (arith, sound.carrying.states, le)

  pub routing_is : (s : ℕ) (r : Routing) → s ≤ length p.listed → r ≡ get_or plan.routings s r → r ≡ routing_in plan.routings s
  routing_is s r le is = is ∙ get_or_default plan.routings s r no_routing (state_within s le)

  pub low_of : (caps : List ℕ) (s : ℕ) (r : Routing) → caps ≡ capacities p.links plan.counts → s ≤ length p.listed → r ≡ get_or plan.routings s r → IsLowRouting caps r
  low_of caps s r same le is =
      subst (λ (x : List ℕ). IsLowRouting x r) (sym same)
      (subst (λ (x : Routing). IsLowRouting (capacities p.links plan.counts) x) (sym (routing_is s r le is)) (low_at s (state_within s le)))

  pub small_of : (caps : List ℕ) → caps ≡ capacities p.links plan.counts → All (λ n. n < 2 ^ 46) caps
  small_of caps same = subst (λ (x : List ℕ). All (λ n. n < 2 ^ 46) x) (sym same) small_capacities

  -- what the routing of one state brings of the demands of another one's flows
  pub brought_of : (n : ℕ) → AreDemands n p.demands → (s k : ℕ) (r q : Routing) → s ≤ length p.listed → k ≤ length p.listed → r ≡ get_or plan.routings s r → q ≡ get_or plan.routings k q
      → All (λ f. brought q.flows f ≤ 2 ^ 102) r.flows
  brought_of n are s k r q le inside is there =
      subst (λ (x : Routing). All (λ f. brought q.flows f ≤ 2 ^ 102) x.flows) (sym (routing_is s r le is))
      (subst (λ (x : Routing). All (λ f. brought x.flows f ≤ 2 ^ 102) (routing_in plan.routings s).flows) (sym (routing_is k q inside there))
      (λ i d lt. brought_low n are s k d (state_within s le) (state_within k inside) i lt))

  pub few_routings : ∥ IsStateList p.listed ∥₁ → length plan.routings < 2 ^ 32
  few_routings checked = omega (arith, sound.carrying.states, few_listed p.listed checked)

  -- the row of a state, from its routing and that without failures
  pub row_of : (s : ℕ) (caps : List ℕ) (normal r : Routing) (row : StateRow) → caps ≡ capacities p.links plan.counts → s ≤ length p.listed
      → normal ≡ get_or plan.routings 0 normal → r ≡ get_or plan.routings s r
      → row.state.0 ≡ s → row.failed ≡ failed_links p.listed s
      → IsCeiling (rerouted normal r r.flows) (r.den * normal.den) row.rerouted
      → IsFullestLink (length caps) (load r.flows) (slice_index caps) row.fullest
      → IsUseOf r caps row.fullest row.used
      → IsNearest (1000 * paid_by p.links plan.certificate s) (raw_value p.links (lines_of_certificate plan.certificate)) row.part
      → IsStateRow p plan s row
  row_of s caps normal r row same le zero_is is state failed again fullest used part =
      let cs = capacities p.links plan.counts in
      let n : normal ≡ routing_in plan.routings 0 = routing_is 0 normal (omega arith) zero_is in
      let e : r ≡ routing_in plan.routings s = routing_is s r le is in
      let moved : IsCeiling (rerouted normal (routing_in plan.routings s) (routing_in plan.routings s).flows) (den_in plan.routings s * normal.den) row.rerouted =
      subst (λ (x : Routing). IsCeiling (rerouted normal x x.flows) (x.den * normal.den) row.rerouted) e again in
      let first : IsFullestLink (length caps) (load_in plan.routings s) (slice_index caps) row.fullest =
      subst (λ (x : Routing). IsFullestLink (length caps) (load x.flows) (slice_index caps) row.fullest) e fullest in
      let own : IsFullestLink (length cs) (load_in plan.routings s) (slice_index cs) row.fullest =
      subst (λ (x : List ℕ). IsFullestLink (length x) (load_in plan.routings s) (slice_index x) row.fullest) same first in
      let there : IsUseOf (routing_in plan.routings s) caps row.fullest row.used = subst (λ (x : Routing). IsUseOf x caps row.fullest row.used) e used in
      record {
        state = state;
        failed = failed;
        rerouted = subst (λ (x : Routing). IsCeiling (rerouted x (routing_in plan.routings s) (routing_in plan.routings s).flows) (den_in plan.routings s * x.den) row.rerouted) n moved;
        fullest = subst (λ k. IsFullestLink k (load_in plan.routings s) (slice_index cs) row.fullest) (capacities_long p.links plan.counts sound.form.counts) own;
        used = subst (λ (x : List ℕ). IsUseOf (routing_in plan.routings s) x row.fullest row.used) same there;
        part = part;
      }

  pub load_fits : (s e : ℕ) → load_in plan.routings s e < 2 ^ 128
  load_fits s e = omega (arith, load_low s e)

  -- each link has a count for each of its modules
  pub shape_at : (e : ℕ) (l : Link) (c : List ℕ) → e < length p.links → l ≡ get_or p.links e l → c ≡ get_or plan.counts e c → length c ≡ length l.modules
  shape_at e l c lt is_link is_counts =
      ap (λ (x : List ℕ). length x) is_counts ∙ (counts_shape p.links plan.counts sound.form.counts e l c lt ∙ sym (ap (λ (x : Link). length x.modules) is_link))

  -- its capacity
  pub capacity_at : (e : ℕ) (l : Link) (c : List ℕ) (d : ℕ) → e < length p.links → l ≡ get_or p.links e l → c ≡ get_or plan.counts e c
      → get_or (capacities p.links plan.counts) e d ≡ l.fixed + modules_capacity l.modules c
  capacity_at e l c d lt is_link is_counts =
      let of : Link × List ℕ → ℕ = λ q. q.0.fixed + modules_capacity q.0.modules q.1 in
      let long = counts_long p.links plan.counts sound.form.counts in
      let zipped : length (zip p.links plan.counts) ≡ length p.links = omega (arith, length-zip p.links plan.counts, long) in
      get_or-map of (zip p.links plan.counts) e (l, c) d (omega (arith, lt, zipped))
      ∙ (ap of (get_or-zip p.links plan.counts e (l, c) lt (omega (arith, lt, long)))
      ∙ (ap (λ (x : Link). x.fixed + modules_capacity x.modules (get_or plan.counts e c)) (sym is_link)
      ∙ ap (λ (x : List ℕ). l.fixed + modules_capacity l.modules x) (sym is_counts)))

  -- all lines of the certificate have a length for each link
  pub lengths_at : All (λ l. length l.cut.lengths ≡ length p.links) plan.certificate.lines
  lengths_at k d lt = (sound.form.certificate.lines k d lt).cut.lengths.long

  pub asked_low : asked_among None plan.certificate.lines < 2 ^ 126
  asked_low = let low = sound.certified.certificate.asked_limit in omega (arith, low, asked_is plan.certificate)

  pub given_low : given_among p.links None plan.certificate.lines < 2 ^ 126
  given_low = let low = sound.certified.certificate.given_limit in omega (arith, low, given_is p.links plan.certificate)

-- what a network keeps of its links
pub few_modules : (nodes : List (List ℕ)) (links : List Link) → ∥ IsNetwork nodes links ∥₁ → (e : ℕ) (l : Link) → e < length links → l ≡ get_or links e l → length l.modules ≤ 16
few_modules nodes links checked e l lt is =
    let few : length (get_or links e l).modules ≤ 16 = ∥∥₁_elim checked (hlevel props) (λ net. (net.sound e l lt).few) in
    omega (arith, few, ap (λ (x : Link). length x.modules) is)

pub sound_modules : (nodes : List (List ℕ)) (links : List Link) → ∥ IsNetwork nodes links ∥₁ → (e : ℕ) (l : Link) → e < length links → l ≡ get_or links e l → All IsModule l.modules
sound_modules nodes links checked e l lt is = subst (λ (x : Link). All IsModule x.modules) (sym is) (modules_sound nodes links checked e l lt)

pub small_fixed : (nodes : List (List ℕ)) (links : List Link) → ∥ IsNetwork nodes links ∥₁ → All (λ l. l.fixed < 2 ^ 40) links
small_fixed nodes links checked = ∥∥₁_elim checked (hlevel props) (λ net. λ e l lt. (net.sound e l lt).fixed)
