-- counts that cover a share carry what the share carries
use Rattle.std.proofs.Common.{◌≡◌, ℕ, zero, suc, ◌+◌, ◌-◌, ◌*◌, ◌^◌, ◌<◌, ◌≤◌, ◌⊎◌, List, [], ◌∷◌, true, false, cond, Some, length, map, sum_by, slice_get, slice_index, get_or, refl, sym, ap, ◌∙◌, arith, subst, ⊎_elim, mul-le-mul_left}
use Rattle.net_core.proofs.Library.{cases_lt, get_or-map, length-map, sum_by-cons, recursion_from_All, slice_get-get_or, slice_get_within, AllByRecursion, below-first, below-same, below-times}
use Rattle.module_prices.specs.declared.cheapest.UnitPair.{UnitPair}
use Rattle.plan_terms.{specs.Terms.{Demand, Link, Flow, Routing, graph_in, Joins, names_link, sum_below, capacities, modules_capacity, sent, load, IsFlow, Carries}, proofs.Lemmas.{fixed_of, all_carried, all_weaker}}
use Rattle.master_law.{specs.Terms.{unit_capacities, share_capacities}, proofs.Capacities.share_at}
use Rattle.plan_law.specs.Laws.{CoversCarry}

-- what flows over a link is no more than all flows
load_low : (flows : List Flow) (e : ℕ) → load flows e ≤ sum_by (λ f. f.num * 1) flows
load_low [] e = omega arith
load_low (f ∷ fs) e =
    let one : cond (names_link e f.path) f.num 0 ≤ f.num = elim (names_link e f.path) as (λ b. cond b f.num 0 ≤ f.num) [ true ↦ omega arith | false ↦ omega arith ] in
    omega (arith, one, sum_by-cons (λ (g : Flow). cond (names_link e g.path) g.num 0) f fs, sum_by-cons (λ (g : Flow). g.num * 1) f fs, load_low fs e)

-- what all demands need
needs_sum : (demands : List Demand) → sum_by (λ d. d.need) demands ≡ sum_below (length demands) (λ k. slice_index (map (λ d. d.need) demands) k)
needs_sum [] = refl
needs_sum (d ∷ ds) = omega (arith, sum_by-cons (λ (w : Demand). w.need) d ds, below-first (length ds) (λ k. slice_index (map (λ w. w.need) (d ∷ ds)) k), needs_sum ds)

-- the flows of a routing sum to what all demands need
all_sent : (joins : ℕ → ℕ → ℕ → Type 0) (demands : List Demand) (scale : ℕ) (nums : List ℕ) (r : Routing) → Carries joins demands scale nums r → sum_by (λ f. f.num * 1) r.flows ≡ scale * r.den * sum_by (λ d. d.need) demands
all_sent joins demands scale nums r c =
    sym (all_carried (λ k. 1) (length demands) r.flows known)
    ∙ (below-same (length demands) (λ k. 1 * sent r.flows k) (λ k. scale * r.den * slice_index (map (λ d. d.need) demands) k)
    (λ k lt. omega (arith, c.met k (get_or demands k no_demand) (slice_get-get_or demands k no_demand lt), ap (λ n. scale * r.den * n) (get_or-map (λ (d : Demand). d.need) demands k no_demand 0 lt)))
    ∙ (below-times (length demands) (scale * r.den) (λ k. slice_index (map (λ d. d.need) demands) k) ∙ ap (λ n. scale * r.den * n) (sym (needs_sum demands))))
  where
    no_demand : Demand
    no_demand = record { name = []; from = record { 0 = 0 }; to = record { 0 = 0 }; need = 0 }

    known : AllByRecursion (λ f. f.demand < length demands) r.flows
    known = all_weaker (IsFlow joins demands) (λ f. f.demand < length demands) r.flows (λ f is. slice_get_within demands f.demand is.of is.at) (recursion_from_All (IsFlow joins demands) r.flows c.flows)

-- the capacity of a link with its modules
installed_at : (links : List Link) (counts : List (List ℕ)) (e : ℕ) (l : Link) (c : List ℕ) → slice_get links e ≡ Some l → slice_get counts e ≡ Some c → slice_index (capacities links counts) e ≡ l.fixed + modules_capacity l.modules c
installed_at [] counts e l c at of = absurd (cc at)
installed_at (x ∷ xs) [] e l c at of = absurd (cc of)
installed_at (x ∷ xs) (y ∷ ys) zero l c at of =
    let one : x ≡ l = cc at in
    let two : y ≡ c = cc of in
    ap (λ (k : Link). k.fixed + modules_capacity k.modules y) one ∙ ap (λ ns. l.fixed + modules_capacity l.modules ns) two
installed_at (x ∷ xs) (y ∷ ys) (suc e) l c at of = installed_at xs ys e l c at of

past : (xs : List ℕ) (e : ℕ) → length xs ≤ e → slice_index xs e ≡ 0
past [] e le = refl
past (x ∷ xs) zero le = absurd (omega (arith, le))
past (x ∷ xs) (suc e) le = past xs e (omega (arith, le))

-- what a link carries, where its capacity in the share, or what all demands need, is there
enough : (load nums all scale den fixed units capacity need total installed : ℕ) → load ≤ nums * den → load ≤ all → all ≡ scale * den * total → total < 2 ^ 44 → nums ≡ fixed * scale + units * capacity
    → (need ≡ 2 ^ 44 - 1) ⊎ (capacity * units ≤ need * scale) → fixed + need ≤ installed → load ≤ installed * (scale * den)
enough load nums all scale den fixed units capacity need total installed within low is few at reached room = ⊎_elim
    (λ most. let m : scale * den * total ≤ scale * den * installed = mul-le-mul_left (scale * den) (omega (arith, few, most, room)) in omega (arith, m, low, is))
    (λ some. let m : scale * (fixed + need) ≤ scale * installed = mul-le-mul_left scale room in
    let n : den * nums ≤ den * (scale * installed) = mul-le-mul_left den (omega (arith, m, at, some)) in
    omega (arith, n, within))
    reached

pub covers_carry : CoversCarry
covers_carry p pairs share counts s r units demands proper covers c = record {
  den = positive share.scale r.den proper.positive c.den;
  flows = c.flows;
  met = λ k d at. c.met k d at ∙ omega arith;
  within = λ e. ⊎_elim (λ lt. inside e lt) (λ ge. outside e ge) (cases_lt e (length p.links));
}
  where
    positive : (a b : ℕ) → 0 < a → 0 < b → 0 < a * b
    positive a b pa pb = let m : a * 1 ≤ a * b = mul-le-mul_left a pb in omega (arith, m, pa)

    no_link : Link
    no_link = record { name = []; a = record { 0 = 0 }; b = record { 0 = 0 }; fixed = 0; setup = 0; modules = [] }

    no_pair : UnitPair
    no_pair = record { capacity = 0; cost = 0 }

    inside : (e : ℕ) → e < length p.links → load r.flows e ≤ slice_index (capacities p.links counts) e * (share.scale * r.den)
    inside e lt =
        let l = get_or p.links e no_link in
        let pair = get_or pairs e no_pair in
        let c_at = get_or counts e [] in
        let l_is : slice_get p.links e ≡ Some l = slice_get-get_or p.links e no_link lt in
        let in_pairs : e < length pairs = subst (λ n. e < n) (sym units.count) lt in
        let in_counts : e < length counts = subst (λ n. e < n) (sym covers.long) lt in
        let counts_is : slice_get counts e ≡ Some c_at = slice_get-get_or counts e [] in_counts in
        let cover = covers.each e l pair c_at l_is (slice_get-get_or pairs e no_pair in_pairs) counts_is in
        let nums_is : slice_index (share_capacities p.links pairs share) e ≡ l.fixed * share.scale + slice_index share.units e * pair.capacity =
        share_at share.scale p.links pairs share.units e units.count proper.long
        ∙ (ap (λ n. n * share.scale + slice_index (unit_capacities pairs) e * slice_index share.units e) (get_or-map (λ (k : Link). k.fixed) p.links e no_link 0 lt)
        ∙ (ap (λ n. l.fixed * share.scale + n * slice_index share.units e) (get_or-map (λ (q : UnitPair). q.capacity) pairs e no_pair 0 in_pairs) ∙ omega arith)) in
        let installed : slice_index (capacities p.links counts) e ≡ l.fixed + modules_capacity l.modules c_at = installed_at p.links counts e l c_at l_is counts_is in
        enough (load r.flows e) (slice_index (share_capacities p.links pairs share) e) (sum_by (λ f. f.num * 1) r.flows) share.scale r.den l.fixed (slice_index share.units e) pair.capacity cover.0 (sum_by (λ d. d.need) p.demands) (slice_index (capacities p.links counts) e)
        (c.within e) (load_low r.flows e) (all_sent (Joins (graph_in p s)) p.demands share.scale (share_capacities p.links pairs share) r c) demands.total nums_is cover.1.enough (omega (arith, installed, cover.2.reaches.reached))

    outside : (e : ℕ) → length p.links ≤ e → load r.flows e ≤ slice_index (capacities p.links counts) e * (share.scale * r.den)
    outside e ge =
        let fixed = past (fixed_of p.links) e (subst (λ n. n ≤ e) (sym (length-map p.links (λ l. l.fixed))) ge) in
        let unit = past share.units e (subst (λ n. n ≤ e) (sym proper.long) ge) in
        let none : slice_index (share_capacities p.links pairs share) e ≡ 0 =
        omega (arith, share_at share.scale p.links pairs share.units e units.count proper.long, ap (λ n. n * share.scale) fixed, ap (λ n. slice_index (unit_capacities pairs) e * n) unit) in
        omega (arith, c.within e, ap (λ n. n * r.den) none)
