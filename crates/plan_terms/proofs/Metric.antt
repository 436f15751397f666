-- the metric inequality: what is carried over its distance is no more than the capacities along the lengths
use Rattle.std.proofs.Common.{◌≡◌, ℕ, zero, suc, ◌+◌, ◌*◌, ◌≤◌, ◌<◌, List, [], ◌∷◌, length, true, false, cond, eqb, ◌||◌, Some, None, Option, unwrap_or, ⊎_elim, refl, sym, ap, subst, ◌∙◌, arith, sum_by, zip, slice_get, slice_index, slice_index_or, eq-eqb, ne_eqb, mul-le-mul_left}
use Rattle.net_core.{proofs.Library.{sum_by-cons, recursion_from_All, cases_eq, slice_get_within, le_of_mul-le-mul_left, AllByRecursion, below-same, below-le, below-times, below-none, below-plus, below-swapped, below-one, sums-le, sums-same, sums-equal, sums-times, paired}, specs.declared.demand.Demand.Demand, specs.declared.ids.LinkId.LinkId, specs.declared.plan.Flow.Flow, specs.declared.plan.Routing.Routing, specs.Terms.{names_link, Graph, Joins, sum_below}}
use Rattle.plan_terms.{specs.Certificates.IsRight, specs.Flows.{sent, load, IsFlow, Carries}, specs.Paths.{IsPath, IsDistance, length_of}, proofs.Distinct.{DistinctLinks, path_links_inside, path_links_differ}}

-- what different links sum to, link by link
pub links_length : (n : ℕ) (lengths : List ℕ) (es : List LinkId) → DistinctLinks es → AllByRecursion (λ e. e.0 < n) es → sum_below n (λ e. cond (names_link e es) (slice_index lengths e) 0) ≡ length_of lengths es
links_length n lengths [] distinct inside = below-none n
links_length n lengths (x ∷ xs) distinct inside =
    let each : (e : ℕ) → e < n → cond (eqb x.0 e || names_link e xs) (slice_index lengths e) 0 ≡ cond (eqb x.0 e) (slice_index lengths e) 0 + cond (names_link e xs) (slice_index lengths e) 0 = λ e l.
    ⊎_elim
    (λ q. let off : names_link e xs ≡ false = subst (λ i. names_link i xs ≡ false) q distinct.0 in
    rw (eq-eqb x.0 e q, off) (omega arith))
    (λ ne. rw (ne_eqb x.0 e ne) (omega arith))
    (cases_eq x.0 e) in
    below-same n _ (λ e. cond (eqb x.0 e) (slice_index lengths e) 0 + cond (names_link e xs) (slice_index lengths e) 0) each
    ∙ (below-plus n (λ e. cond (eqb x.0 e) (slice_index lengths e) 0) (λ e. cond (names_link e xs) (slice_index lengths e) 0)
    ∙ omega (arith, below-one n x.0 (λ e. slice_index lengths e) inside.0, links_length n lengths xs distinct.1 inside.1))

-- what a flow takes of a link, along a length
abbrev weight : List ℕ → ℕ → Flow → ℕ
weight lengths e f = f.num * cond (names_link e f.path) (slice_index lengths e) 0

pub loaded : (lengths : List ℕ) (e : ℕ) (flows : List Flow) → slice_index lengths e * load flows e ≡ sum_by (weight lengths e) flows
loaded lengths e [] = omega arith
loaded lengths e (f ∷ fs) =
    let one : slice_index lengths e * cond (names_link e f.path) f.num 0 ≡ weight lengths e f = elim (names_link e f.path) as (λ b. slice_index lengths e * cond b f.num 0 ≡ f.num * cond b (slice_index lengths e) 0) [ true ↦ omega arith | false ↦ omega arith ] in
    omega (arith, ap (λ s. slice_index lengths e * s) (sum_by-cons (λ (g : Flow). cond (names_link e g.path) g.num 0) f fs), sum_by-cons (weight lengths e) f fs, one, loaded lengths e fs)

pub all_loaded : (n : ℕ) (lengths : List ℕ) (flows : List Flow) → sum_below n (λ e. slice_index lengths e * load flows e) ≡ sum_by (λ f. f.num * sum_below n (λ e. cond (names_link e f.path) (slice_index lengths e) 0)) flows
all_loaded n lengths flows =
    below-same n _ (λ e. sum_by (weight lengths e) flows) (λ e l. loaded lengths e flows)
    ∙ (below-swapped n (weight lengths) flows
    ∙ sums-equal (λ f. sum_below n (λ e. weight lengths e f)) (λ f. f.num * sum_below n (λ e. cond (names_link e f.path) (slice_index lengths e) 0)) flows (λ f. below-times n f.num (λ e. cond (names_link e f.path) (slice_index lengths e) 0)))

-- what a demand's flows carry, times a number of the demand
pub carried : (far : ℕ → ℕ) (k : ℕ) (flows : List Flow) → far k * sent flows k ≡ sum_by (λ f. cond (eqb f.demand k) (f.num * far k) 0) flows
carried far k [] = omega arith
carried far k (f ∷ fs) =
    let one : far k * cond (eqb f.demand k) f.num 0 ≡ cond (eqb f.demand k) (f.num * far k) 0 = elim (eqb f.demand k) as (λ b. far k * cond b f.num 0 ≡ cond b (f.num * far k) 0) [ true ↦ omega arith | false ↦ omega arith ] in
    omega (arith, ap (λ s. far k * s) (sum_by-cons (λ (g : Flow). cond (eqb g.demand k) g.num 0) f fs), sum_by-cons (λ (g : Flow). cond (eqb g.demand k) (g.num * far k) 0) f fs, one, carried far k fs)

pub all_carried : (far : ℕ → ℕ) (m : ℕ) (flows : List Flow) → AllByRecursion (λ f. f.demand < m) flows → sum_below m (λ k. far k * sent flows k) ≡ sum_by (λ f. f.num * far f.demand) flows
all_carried far m flows inside =
    below-same m _ (λ k. sum_by (λ f. cond (eqb f.demand k) (f.num * far k) 0) flows) (λ k l. carried far k flows)
    ∙ (below-swapped m (λ k (f : Flow). cond (eqb f.demand k) (f.num * far k) 0) flows
    ∙ sums-same (λ f. sum_below m (λ k. cond (eqb f.demand k) (f.num * far k) 0)) (λ f. f.num * far f.demand) (λ f. f.demand < m) flows inside (λ f l. below-one m f.demand (λ k. f.num * far k) l))

pub all_weaker : {X : Type 0} (P Q : X → Type 0) (xs : List X) → ((x : X) → P x → Q x) → AllByRecursion P xs → AllByRecursion Q xs
all_weaker P Q [] h all = tt
all_weaker P Q (x ∷ xs) h all = (h x all.0, all_weaker P Q xs h all.1)

-- no path is shorter than the distance, and apart counts 0
pub near : (joins : ℕ → ℕ → ℕ → Type 0) (lengths : List ℕ) (a b : ℕ) (o : Option ℕ) (es : List LinkId) → IsDistance joins lengths a b o → IsPath joins a b es → unwrap_or o 0 ≤ length_of lengths es
near joins lengths a b None es distance path = omega arith
near joins lengths a b (Some d) es distance path = distance.1 es path

pub some_at : {X : Type 0} (xs : List X) (k : ℕ) (x d : X) → slice_get xs k ≡ Some x → slice_index_or xs k d ≡ x
some_at [] k x d e = cc
some_at (y ∷ ys) zero x d e = cc e
some_at (y ∷ ys) (suc k) x d e = some_at ys k x d e

module _ (g : Graph) (demands : List Demand) where
  -- a flow's distance is no more than its path's length
  flow_length : (lengths : List ℕ) (right : ℕ) (r : IsRight (Joins g) lengths demands right) (f : Flow) → IsFlow (Joins g) demands f
      → f.num * unwrap_or (slice_index_or r.far f.demand None) 0 ≤ f.num * sum_below (length g.links) (λ e. cond (names_link e f.path) (slice_index lengths e) 0)
  flow_length lengths right r f flow =
      let inside = path_links_inside g flow.of.from.0 flow.of.to.0 f.path flow.path in
      let differ = path_links_differ g flow.of.from.0 flow.of.to.0 f.path flow.path in
      let short = near (Joins g) lengths flow.of.from.0 flow.of.to.0 (slice_index_or r.far f.demand None) f.path (r.each f.demand flow.of flow.at) flow.path in
      mul-le-mul_left f.num (omega (arith, links_length (length g.links) lengths f.path differ inside, short))

  -- the right side over a routing's denominator is what its flows carry over their distances
  right_carried : (scale : ℕ) (nums lengths : List ℕ) (right : ℕ) (routing : Routing) → Carries (Joins g) demands scale nums routing → (r : IsRight (Joins g) lengths demands right)
      → right * (scale * routing.den) ≡ sum_below (length demands) (λ k. unwrap_or (slice_index_or r.far k None) 0 * sent routing.flows k)
  right_carried scale nums lengths right routing c r =
      let den = scale * routing.den in
      let each : (k : ℕ) (d : Demand) (o : Option ℕ) → slice_get demands k ≡ Some d → slice_get r.far k ≡ Some o → den * (d.need * unwrap_or o 0) ≡ unwrap_or (slice_index_or r.far k None) 0 * sent routing.flows k = λ k d o at far.
      let same : slice_index_or r.far k None ≡ o = some_at r.far k o None far in
      omega (arith, ap (λ (i : Option ℕ). unwrap_or i 0 * sent routing.flows k) same, ap (λ i. unwrap_or o 0 * i) (c.met k d at)) in
      omega (arith, ap (λ i. i * den) r.sum)
      ∙ (sym (sums-times den (λ (p : Demand × Option ℕ). p.0.need * unwrap_or p.1 0) (zip demands r.far))
      ∙ paired (λ (p : Demand × Option ℕ). den * (p.0.need * unwrap_or p.1 0)) demands r.far (λ k. unwrap_or (slice_index_or r.far k None) 0 * sent routing.flows k) r.count each)

  -- The metric inequality: where a routing carries the demands, their right side is at most the capacities along the lengths.
  pub metric_inequality : (scale : ℕ) (nums lengths : List ℕ) (right : ℕ) (routing : Routing) → Carries (Joins g) demands scale nums routing → IsRight (Joins g) lengths demands right
      → right * scale ≤ sum_below (length g.links) (λ e. slice_index lengths e * slice_index nums e)
  metric_inequality scale nums lengths right routing c r =
      let n = length g.links in
      let far : ℕ → ℕ = λ k. unwrap_or (slice_index_or r.far k None) 0 in
      let flows = recursion_from_All (IsFlow (Joins g) demands) routing.flows c.flows in
      let known : AllByRecursion (λ f. f.demand < length demands) routing.flows = all_weaker (IsFlow (Joins g) demands) (λ f. f.demand < length demands) routing.flows (λ f p. slice_get_within demands f.demand p.of p.at) flows in
      let longer : sum_by (λ f. f.num * far f.demand) routing.flows ≤ sum_by (λ f. f.num * sum_below n (λ e. cond (names_link e f.path) (slice_index lengths e) 0)) routing.flows =
      sums-le _ _ (IsFlow (Joins g) demands) routing.flows flows (λ f p. flow_length lengths right r f p) in
      let within : sum_below n (λ e. slice_index lengths e * load routing.flows e) ≤ sum_below n (λ e. routing.den * (slice_index lengths e * slice_index nums e)) =
      below-le n _ _ (λ e l. let times : slice_index lengths e * load routing.flows e ≤ slice_index lengths e * (slice_index nums e * routing.den) = mul-le-mul_left (slice_index lengths e) (c.within e) in omega arith) in
      let all : routing.den * (right * scale) ≤ routing.den * sum_below n (λ e. slice_index lengths e * slice_index nums e) =
      omega (arith, right_carried scale nums lengths right routing c r, all_carried far (length demands) routing.flows known, longer, all_loaded n lengths routing.flows, within, below-times n routing.den (λ e. slice_index lengths e * slice_index nums e)) in
      le_of_mul-le-mul_left all c.den

  -- the metric inequality as a sum over pairs, where lengths and capacities have one number for each link
  pub metric_inequality_listed : (scale : ℕ) (nums lengths : List ℕ) (right : ℕ) (routing : Routing) → length lengths ≡ length g.links → length nums ≡ length g.links → Carries (Joins g) demands scale nums routing → IsRight (Joins g) lengths demands right
      → right * scale ≤ sum_by (λ p. p.0 * p.1) (zip lengths nums)
  metric_inequality_listed scale nums lengths right routing count nums_count c r =
      let pairs : sum_by (λ p. p.0 * p.1) (zip lengths nums) ≡ sum_below (length lengths) (λ e. slice_index lengths e * slice_index nums e) =
      paired (λ (p : ℕ × ℕ). p.0 * p.1) lengths nums (λ e. slice_index lengths e * slice_index nums e) (nums_count ∙ sym count) (λ k x y at of. rw (some_at lengths k x 0 at, some_at nums k y 0 of) refl) in
      omega (arith, pairs, ap (λ n. sum_below n (λ e. slice_index lengths e * slice_index nums e)) count, metric_inequality scale nums lengths right routing c r)
