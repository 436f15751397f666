-- the fallback plan from its routings and its counts
use Rattle.std.proofs.Common.{◌≡◌, ◌≢◌, ℕ, zero, suc, ◌+◌, ◌-◌, ◌*◌, ◌^◌, ◌<◌, ◌≤◌, ◌==◌, cond, if◌then◌else◌, List, [], ◌∷◌, All, AllPairs, Any, Some, get_or, length, refl, sym, ◌∙◌, ap, subst, arith, slice_get, slice_index, ⊎_elim, eq-eqb, ne_eqb}
use Rattle.net_core.proofs.Library.{sum_by-cons, All-cons, All-nil, cases_eq, cases_lt, slice_get_within, all_at, get_some}
use Rattle.plan_terms.specs.Terms.{IsLink, IsModule, IsNetwork, Demand, Link, Flow, Routing, Case, graph_in, Joins, AreCounts, AreWithinLimits, capacities, modules_capacity, total_cost, IsFallback, IsLeastRouting, peak, raised, Carries, load, sent, CoverLoads, Covers, ArePriceLengths}
use Rattle.module_choice.{specs.inner.Routes.{AreCovered, AreRouted}, proofs.Carrying.{least_flows, load_none, network_links, peak_above}}

-- price lengths plus 1 are positive
pub raised_positive : (prices : List ℕ) (e : ℕ) → e < length prices → 0 < get_or (raised prices) e 0
raised_positive [] e lt = absurd (omega arith)
raised_positive (p ∷ ps) zero lt = omega arith
raised_positive (p ∷ ps) (suc e) lt = raised_positive ps e (omega arith)

-- where a flow is one of the demand
abbrev part : Flow → ℕ → ℕ
part f k = if f.demand == k then f.num else 0

part_here : (f : Flow) (k : ℕ) → f.demand ≡ k → part f k ≡ f.num
part_here f k e = ap (λ b. cond b f.num 0) (eq-eqb f.demand k e)

part_else : (f : Flow) (k : ℕ) → f.demand ≢ k → part f k ≡ 0
part_else f k ne = ap (λ b. cond b f.num 0) (ne_eqb f.demand k ne)

sent_none : (flows : List Flow) (k : ℕ) → All (λ f. f.demand ≢ k) flows → sent flows k ≡ 0
sent_none [] k none = refl
sent_none (f ∷ fs) k none =
    omega (arith, sum_by-cons (λ (g : Flow). part g k) f fs, part_else f k (none 0 f (omega arith)), sent_none fs k (λ i d lt. none (suc i) d (omega arith)))

-- the one is among the later ones
any_rest : (f : Flow) (fs : List Flow) (k : ℕ) → f.demand ≢ k → Any (λ f. f.demand ≡ k) (f ∷ fs) → Any (λ f. f.demand ≡ k) fs
any_rest f fs k other (zero, x, lt, is, here) = absurd (other (ap (λ (g : Flow). g.demand) is ∙ here))
any_rest f fs k other (suc i, x, lt, is, here) = (i, x, omega arith, is, here)

-- in ordered flows a demand's whole need is sent once
sent_once : (flows : List Flow) (k need : ℕ) → AllPairs (λ f g. f.demand < g.demand) flows → All (λ f. f.demand ≡ k → f.num ≡ need) flows → Any (λ f. f.demand ≡ k) flows → sent flows k ≡ need
sent_once [] k need ordered whole some = absurd (omega (arith, some.2))
sent_once (f ∷ fs) k need ordered whole some = ⊎_elim
    (λ here. let num : f.num ≡ need = whole 0 f (omega arith) here in
    let rest : sent fs k ≡ 0 = sent_none fs k (λ i d lt e. let later : f.demand < (get_or fs i d).demand = ordered 0 (suc i) d (omega arith) (omega arith) in omega (arith, later, here, e)) in
    omega (arith, sum_by-cons (λ (g : Flow). part g k) f fs, part_here f k here, num, rest))
    (λ other. let rest : sent fs k ≡ need = sent_once fs k need (λ i j d lt in'. ordered (suc i) (suc j) d (omega arith) (omega arith)) (λ i d lt. whole (suc i) d (omega arith)) (any_rest f fs k other some) in
    omega (arith, sum_by-cons (λ (g : Flow). part g k) f fs, part_else f k other, rest))
    (cases_eq f.demand k)

-- each demand is sent
met : (joins : ℕ → ℕ → ℕ → Type 0) (lengths : List ℕ) (demands : List Demand) (r : Routing) → IsLeastRouting joins lengths demands r → (k : ℕ) (d : Demand) → slice_get demands k ≡ Some d → sent r.flows k ≡ d.need
met joins lengths demands r least k d at =
    let of_one : (i : ℕ) (f : Flow) → i < length r.flows → (get_or r.flows i f).demand ≡ k → ((get_or r.flows i f).num ≡ d.need) × (0 < d.need) =
    λ i f lt here. let flow = least.each i f lt in
    let one : flow.of ≡ d = cc (subst (λ j. slice_get demands j ≡ Some flow.of) here flow.at, at) in
    (flow.num ∙ ap (λ (x : Demand). x.need) one, omega (arith, flow.positive, ap (λ (x : Demand). x.need) one)) in
    ⊎_elim
    (λ some. sent_once r.flows k d.need least.ordered (λ i f lt here. (of_one i f lt here).0) (least.every k d at some))
    (λ none. let zero' : d.need ≡ 0 = omega (arith, none) in sent_none r.flows k (λ i f lt here. omega (arith, (of_one i f lt here).1, zero')) ∙ sym zero')
    (cases_lt 0 d.need)

-- the capacity of link e is its pre-installed one and that of its counts
pub capacity_at : (links : List Link) (counts : List (List ℕ)) (e : ℕ) (l : Link) (c : List ℕ) → slice_get links e ≡ Some l → slice_get counts e ≡ Some c → get_or (capacities links counts) e 0 ≡ l.fixed + modules_capacity l.modules c
capacity_at [] counts e l c p q = absurd (cc)
capacity_at (k ∷ ks) [] e l c p q = absurd (cc)
capacity_at (k ∷ ks) (d ∷ ds) zero l c p q =
    let one : k ≡ l = cc p in
    let two : d ≡ c = cc q in
    ap (λ (x : Link). x.fixed + modules_capacity x.modules d) one ∙ ap (λ x. l.fixed + modules_capacity l.modules x) two
capacity_at (k ∷ ks) (d ∷ ds) (suc e) l c p q = capacity_at ks ds e l c p q

-- counts that reach the greatest loads carry each routing
carried : (p : Case) (s : ℕ) (lengths : List ℕ) (rs : List Routing) (r : Routing) (counts : List (List ℕ)) → CoverLoads p.links (peak rs) counts → slice_get rs s ≡ Some r → IsLeastRouting (Joins (graph_in p s)) lengths p.demands r → Carries (Joins (graph_in p s)) p.demands 1 (capacities p.links counts) r
carried p s lengths rs r counts covers at least =
    let flows = least_flows (Joins (graph_in p s)) lengths p.demands r least in
    let den : r.den ≡ 1 = least.whole in
    record {
      den = omega (arith, den);
      flows = flows;
      met = λ k d is. met (Joins (graph_in p s)) lengths p.demands r least k d is ∙ sym (ap (λ x. d.need * 1 * x) den ∙ omega arith);
      within = λ e. subst (λ x. load r.flows e ≤ get_or (capacities p.links counts) e 0 * x) (sym den) (⊎_elim
          (λ lt. let l = get_some p.links e lt in
          let c = get_some counts e (omega (arith, lt, covers.long)) in
          let enough = (covers.each e l.0 c.0 l.1 c.1).reaches.reached in
          omega (arith, capacity_at p.links counts e l.0 c.0 l.1 c.1, enough, peak_above rs s r e at))
          (λ past. let none = load_none (graph_in p s) p.demands r.flows e flows (λ v. let in' = slice_get_within p.links e v.link v.at in omega (arith, in', past)) in omega (arith, none))
          (cases_lt e (length p.links)));
    }

-- counts of the right shape, link by link
pub all_shaped : (links : List Link) (counts : List (List ℕ)) → length counts ≡ length links → ((e : ℕ) (l : Link) (c : List ℕ) → slice_get links e ≡ Some l → slice_get counts e ≡ Some c → length c ≡ length l.modules) → AreCounts links counts
all_shaped [] [] long each = tt
all_shaped [] (c ∷ cs) long each = absurd (omega (arith, long))
all_shaped (l ∷ ls) [] long each = absurd (omega (arith, long))
all_shaped (l ∷ ls) (c ∷ cs) long each = (each 0 l c refl refl, all_shaped ls cs (omega (arith, long)) (λ e k d p q. each (suc e) k d p q))

pub covered_shape : (links : List Link) (loads : ℕ → ℕ) (counts : List (List ℕ)) → AreCovered links loads counts → AreCounts links counts
covered_shape links loads counts covered = all_shaped links counts covered.covers.long (λ e l c p q. (covered.covers.each e l c p q).reaches.shape)

pub capacities_small : (links : List Link) (counts : List (List ℕ)) → ((e : ℕ) (l : Link) (c : List ℕ) → slice_get links e ≡ Some l → slice_get counts e ≡ Some c → l.fixed + modules_capacity l.modules c < 2 ^ 46) → All (λ n. n < 2 ^ 46) (capacities links counts)
capacities_small [] counts each = All-nil (λ n. n < 2 ^ 46)
capacities_small (l ∷ ls) [] each = All-nil (λ n. n < 2 ^ 46)
capacities_small (l ∷ ls) (c ∷ cs) each = All-cons (λ n. n < 2 ^ 46) (l.fixed + modules_capacity l.modules c) (capacities ls cs) (each 0 l c refl refl) (capacities_small ls cs (λ e k d p q. each (suc e) k d p q))

-- covered links stay within the limits
pub covered_narrow : (links : List Link) (loads : ℕ → ℕ) (counts : List (List ℕ)) → ((e : ℕ) (l : Link) → slice_get links e ≡ Some l → l.fixed < 2 ^ 40) → AreCovered links loads counts → AreWithinLimits links counts
covered_narrow links loads counts fixed covered = record {
  few = covered.few;
  small = capacities_small links counts (λ e l c p q. omega (arith, fixed e l p, covered.small e l c p q));
}

peak_none : (rs : List Routing) (e : ℕ) → ((s : ℕ) (r : Routing) → slice_get rs s ≡ Some r → load r.flows e ≡ 0) → peak rs e ≡ 0
peak_none [] e none = refl
peak_none (r ∷ rs) e none = omega (arith, none 0 r refl, peak_none rs e (λ s q at. none (suc s) q at))

-- a link without modules carries nothing
pub unserved : (p : Case) (lengths : List ℕ) (n : ℕ) (rs : List Routing) (peaks : List ℕ) → AreRouted p lengths n rs peaks → (e : ℕ) (l : Link) → slice_get p.links e ≡ Some l → l.modules ≡ [] → get_or peaks e 0 ≡ 0
unserved p lengths n rs peaks routed e l at none =
    routed.greatest e (slice_get_within p.links e l at)
    ∙ peak_none rs e (λ s r is. load_none (graph_in p s) p.demands r.flows e (least_flows (Joins (graph_in p s)) lengths p.demands r (routed.routed s r is)) (λ v. let one : v.link ≡ l = cc (v.at, at) in v.has_module (ap (λ (x : Link). x.modules) one ∙ none)))

-- the counts cover the greatest loads themselves
peaks_covered : (links : List Link) (rs : List Routing) (peaks : List ℕ) (counts : List (List ℕ)) → ((e : ℕ) → e < length links → get_or peaks e 0 ≡ peak rs e) → CoverLoads links (slice_index peaks) counts → CoverLoads links (peak rs) counts
peaks_covered links rs peaks counts same covers = record {
  long = covers.long;
  each = λ e l c p q. subst (λ w. Covers l (w - l.fixed) c) (same e (slice_get_within links e l p)) (covers.each e l c p q);
}

-- routings and counts are the fallback plan
pub falls : (p : Case) (prices : List ℕ) (rs : List Routing) (peaks : List ℕ) (counts : List (List ℕ)) (cost : ℕ) → ArePriceLengths p.links prices → AreRouted p (raised prices) (length p.listed + 1) rs peaks → AreCovered p.links (slice_index peaks) counts → cost ≡ total_cost p.links counts → IsFallback p counts rs cost
falls p prices rs peaks counts cost priced routed covered paid =
    let covers = peaks_covered p.links rs peaks counts routed.greatest covered.covers in
    record {
      prices = prices;
      priced = priced;
      states = routed.count;
      routed = routed.routed;
      carries = λ s r at. carried p s (raised prices) rs r counts covers at (routed.routed s r at);
      shape = covered_shape p.links (slice_index peaks) counts covered;
      covered = covers;
      paid = paid;
    }

-- each module of a network is sound
pub modules_sound : (nodes : List (List ℕ)) (links : List Link) → ∥ IsNetwork nodes links ∥₁ → All (λ l. (length l.modules ≤ 16) × All IsModule l.modules) links
modules_sound nodes links checked k d lt = let sound = network_links nodes links checked k d lt in (sound.few, sound.each)

pub fixed_small : (nodes : List (List ℕ)) (links : List Link) → ∥ IsNetwork nodes links ∥₁ → (e : ℕ) (l : Link) → slice_get links e ≡ Some l → l.fixed < 2 ^ 40
fixed_small nodes links checked e l at = (all_at (IsLink (length nodes)) links e l (network_links nodes links checked) at).fixed
