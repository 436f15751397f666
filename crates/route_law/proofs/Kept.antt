-- what a state keeps of lengths is violated where the lengths are
use Rattle.std.proofs.Common.{◌≡◌, ℕ, zero, suc, ◌*◌, ◌<◌, ◌≤◌, List, [], ◌∷◌, Some, None, Option, length, map, sum_by, zip, slice_index, slice_index_or, unwrap_or, refl, sym, ap, ◌∙◌, arith, subst, ⊎_elim, option_map, mul-le-mul_left}
use Rattle.net_core.proofs.Library.{cases_eq, cases_lt, length-map, sum_by-cons}
use Rattle.plan_terms.{specs.Terms.{Demand, LinkId, Graph, Joins, IsRight, Keeps, IsDistance, Leads, length_of}, proofs.Lemmas.metric_inequality_listed}
use Rattle.route_law.{specs.Laws.{LinkPricesAreViolated, ViolatedCarriesNothing}, proofs.LinkPrices.prices_violate}

-- what capacities give along lengths
abbrev along : List ℕ → List ℕ → ℕ
along lengths nums = sum_by (λ p. p.0 * p.1) (zip lengths nums)

module _ (g : Graph) (lengths kept : List ℕ) (k : Keeps g lengths kept) where
  leads_length : (a : ℕ) (es : List LinkId) (cs : List ℕ) → Leads (Joins g) a es cs → length_of lengths es ≡ k.common * length_of kept es
  leads_length a [] [] leads = omega arith
  leads_length a [] (c ∷ cs) leads = absurd leads
  leads_length a (e ∷ es) [] leads = absurd leads
  leads_length a (e ∷ es) (c ∷ cs) leads = omega (arith, k.divided e.0 leads.0.survives, leads_length c es cs leads.1)

  distance_times : (a b : ℕ) (o : Option ℕ) → IsDistance (Joins g) kept a b o → IsDistance (Joins g) lengths a b (option_map (λ d. k.common * d) o)
  distance_times a b None apart = apart
  distance_times a b (Some d) far = (
    (far.0.0, far.0.1, leads_length a far.0.0 far.0.1.0 far.0.1.1 ∙ ap (λ x. k.common * x) far.0.2),
    λ es path. let m : k.common * d ≤ k.common * length_of kept es = mul-le-mul_left k.common (far.1 es path) in
        omega (arith, m, leads_length a es path.0 path.1),
  )

  index_map : (far : List (Option ℕ)) (i : ℕ) → slice_index_or (map (option_map (λ d. k.common * d)) far) i None ≡ option_map (λ d. k.common * d) (slice_index_or far i None)
  index_map [] i = refl
  index_map (o ∷ os) zero = refl
  index_map (o ∷ os) (suc i) = index_map os i

  unwrap_times : (o : Option ℕ) → unwrap_or (option_map (λ d. k.common * d) o) 0 ≡ k.common * unwrap_or o 0
  unwrap_times None = omega arith
  unwrap_times (Some d) = refl

  sums_times : (demands : List Demand) (far : List (Option ℕ)) → sum_by (λ p. p.0.need * unwrap_or p.1 0) (zip demands (map (option_map (λ d. k.common * d)) far)) ≡ k.common * sum_by (λ p. p.0.need * unwrap_or p.1 0) (zip demands far)
  sums_times [] far = omega arith
  sums_times (d ∷ ds) [] = omega arith
  sums_times (d ∷ ds) (o ∷ os) =
      omega (
        arith,
        sum_by-cons (λ (q : Demand × Option ℕ). q.0.need * unwrap_or q.1 0) (d, option_map (λ x. k.common * x) o) (zip ds (map (option_map (λ x. k.common * x)) os)),
        ap (λ x. k.common * x) (sum_by-cons (λ (q : Demand × Option ℕ). q.0.need * unwrap_or q.1 0) (d, o) (zip ds os)),
        ap (λ x. d.need * x) (unwrap_times o),
        sums_times ds os,
      )

  -- the right side of the lengths is that of what is kept, times the common divisor
  pub right_times : (demands : List Demand) (right : ℕ) → IsRight (Joins g) kept demands right → IsRight (Joins g) lengths demands (k.common * right)
  right_times demands right r = record {
    far = map (option_map (λ d. k.common * d)) r.far;
    count = length-map r.far (option_map (λ d. k.common * d)) ∙ r.count;
    each = λ i d at. subst (λ o. IsDistance (Joins g) lengths d.from.0 d.to.0 o) (sym (index_map r.far i)) (distance_times d.from.0 d.to.0 (slice_index_or r.far i None) (r.each i d at));
    sum = ap (λ x. k.common * x) r.sum ∙ sym (sums_times demands r.far);
  }

  -- number by number, what is kept is no more
  index_low : (e : ℕ) → k.common * slice_index kept e ≤ slice_index lengths e
  index_low e = ⊎_elim
      (λ z. omega (arith, ap (λ x. k.common * x) z))
      (λ some. omega (arith, k.divided e (k.zero e some)))
      (cases_eq (slice_index kept e) 0)

  along_low : (c : ℕ) (xs ys nums : List ℕ) → ((e : ℕ) → c * slice_index xs e ≤ slice_index ys e) → length xs ≡ length ys → c * along xs nums ≤ along ys nums
  along_low c [] ys nums low same = omega arith
  along_low c (x ∷ xs) [] nums low same = absurd (omega (arith, same))
  along_low c (x ∷ xs) (y ∷ ys) [] low same = omega arith
  along_low c (x ∷ xs) (y ∷ ys) (n ∷ ns) low same =
      let first : n * (c * x) ≤ n * y = mul-le-mul_left n (low 0) in
      omega (arith, first, along_low c xs ys ns (λ e. low (suc e)) (omega (arith, same)), ap (λ s. c * s) (sum_by-cons (λ (q : ℕ × ℕ). q.0 * q.1) (x, n) (zip xs ns)), sum_by-cons (λ (q : ℕ × ℕ). q.0 * q.1) (y, n) (zip ys ns))

  -- where the lengths are violated, so is what the state keeps of them
  pub kept_violated : (scale : ℕ) (nums : List ℕ) (right : ℕ) → along lengths nums < k.common * right * scale → along kept nums < right * scale
  kept_violated scale nums right v = ⊎_elim (λ l. l)
      (λ ge. let m : k.common * (right * scale) ≤ k.common * along kept nums = mul-le-mul_left k.common ge in
      let low = along_low k.common kept lengths nums index_low k.count in
      absurd (omega (arith, m, low, v)))
      (cases_lt (along kept nums) (right * scale))

pub link_prices_are_violated : LinkPricesAreViolated
link_prices_are_violated g demands caps lengths cut joined p below keeps right =
    kept_violated g lengths cut.lengths keeps caps.scale caps.nums cut.right
    (prices_violate g demands caps lengths p.basis p.duals p.den p.best p.prices joined (keeps.common * cut.right) (right_times g lengths cut.lengths keeps demands cut.right right) below)

-- where a routing carries the demands, the capacities violate no cut of the state
pub violated_carries_nothing : ViolatedCarriesNothing
violated_carries_nothing g demands caps routing cut count kept right carries violated =
    omega (arith, violated, metric_inequality_listed g demands caps.scale caps.nums cut.lengths cut.right routing kept.count count carries right)
