-- a plan's certificate over boxes: its value is at least the plan's bound
use Rattle.std.{proofs.Common.{◌≡◌, ◌≢◌, ◌∙◌, ℕ, zero, suc, ◌+◌, ◌-◌, ◌*◌, ◌/◌, ◌%◌, ◌≤◌, ◌<◌, min, ⊎_elim, List, [], ◌∷◌, Some, length, map, slice_get, slice_index, unwrap_or, refl, ap, sym, subst, arith, mul-le-mul_left}, proofs.lemmas.Grind.div_ceil_times}
use Rattle.net_core.proofs.Library.{cases_eq, dvd-mul_right, mul-div_cancel', sum_by-cons, all_at, get_some}
use Rattle.plan_terms.{specs.Terms.{Case, CertificateLine, IsBound, IsGreatestDivisor, Link, Module, asked, charges, fixed_along, given, price, raw_value}, proofs.Bounds.{bound_free, bound_rounded, quotient_least}}
use Rattle.plan_types.{specs.Terms.{IsCertifiedPlan, lines_of_certificate}, specs.declared.certificate.CertLine.CertLine, specs.declared.plan.Plan.Plan}
use Rattle.tree_check.specs.Terms.{span_at, TreeBox, IsBoxCertificate, all_losses, asked_right, given_free, module_charge, module_costs, value_gains, value_losses}
use Rattle.line_check.{specs.Inequalities.{WeightedLine, coefficients_of, entry, line_of_cut, module_number, module_price}, proofs.OverModules.over-same}
use Rattle.tree_boxes.{proofs.LeastCosts.over_none, specs.Causes.{HasPlanValue, lines_of_plan}}

-- ---- bounds

-- a number over the same denominator that is no less has a bound that is no less
pub bound_of : (links : List Link) (num den bound more : ℕ) → 0 < den → IsBound links num den bound → num ≤ more → (value : ℕ) × IsBound links more den value × (bound ≤ value)
bound_of links num den bound more some is le =
    let g = is.divisor in
    ⊎_elim
    (λ (none : g ≡ 0).
    let whole = mul-div_cancel' g is.multiple in
    let free : bound ≡ 0 = omega (arith, whole, ap (λ i. i * (bound / g)) none) in
    (0, bound_free links more den (subst (IsGreatestDivisor (charges links)) none is.is_divisor), omega (arith, free)))
    (λ (positive : g ≢ 0).
    let each : den * 1 ≤ den * g = mul-le-mul_left den (omega (arith, positive)) in
    let times = div_ceil_times more (den * g) (omega (arith, each, some)) in
    let q : ℕ = more / (den * g) + min 1 (more % (den * g)) in
    let reached : more ≤ q * (den * g) = times.0 in
    let low : q * (den * g) < more + den * g = times.1 in (
      g * q,
      bound_rounded links more den g q (omega (arith, positive)) is.is_divisor (omega (arith, reached)) (λ c enough. quotient_least more (den * g) q low c enough),
      is.least (g * q) (dvd-mul_right g q) (omega (arith, reached, le)),
    ))
    (cases_eq g 0)

-- ---- the coefficients and costs at a place

number_at : (links : List Link) (e : ℕ) (l : Link) → slice_get links e ≡ Some l → module_number links e ≡ length l.modules
number_at [] e l at = absurd (cc at)
number_at (k ∷ links) zero l at = let same : k ≡ l = cc at in ap (λ (x : Link). length x.modules) same
number_at (k ∷ links) (suc e) l at = number_at links e l at

mapped_at : (f : Module → ℕ) (modules : List Module) (m : ℕ) (x : Module) → slice_get modules m ≡ Some x → slice_index (map f modules) m ≡ f x
mapped_at f [] m x at = absurd (cc at)
mapped_at f (y ∷ modules) zero x at = let same : y ≡ x = cc at in ap f same
mapped_at f (y ∷ modules) (suc m) x at = mapped_at f modules m x at

cost_at : (links : List Link) (e m : ℕ) (l : Link) (x : Module) → slice_get links e ≡ Some l → slice_get l.modules m ≡ Some x → entry (module_costs links) e m ≡ x.cost
cost_at [] e m l x at inside = absurd (cc at)
cost_at (k ∷ links) zero m l x at inside =
    let same : k ≡ l = cc at in
    mapped_at (λ y. y.cost) k.modules m x (subst (λ (j : Link). slice_get j.modules m ≡ Some x) (sym same) inside)
cost_at (k ∷ links) (suc e) m l x at inside = cost_at links e m l x at inside

coefficient_at : (lengths : List ℕ) (links : List Link) (e m : ℕ) (l : Link) (x : Module) → slice_get links e ≡ Some l → slice_get l.modules m ≡ Some x
    → entry (coefficients_of lengths links) e m ≤ slice_index lengths e * x.capacity
coefficient_at [] links e m l x at inside = omega arith
coefficient_at (n ∷ lengths) [] e m l x at inside = absurd (cc at)
coefficient_at (n ∷ lengths) (k ∷ links) zero m l x at inside =
    let same : k ≡ l = cc at in
    let is : slice_index (map (λ (y : Module). n * y.capacity) k.modules) m ≡ n * x.capacity = mapped_at (λ y. n * y.capacity) k.modules m x (subst (λ (j : Link). slice_get j.modules m ≡ Some x) (sym same) inside) in
    omega (arith, is)
coefficient_at (n ∷ lengths) (k ∷ links) (suc e) m l x at inside = coefficient_at lengths links e m l x at inside

-- ---- sums of a plan's lines

module _ (links : List Link) where
  abbrev lines_from : List CertLine → List WeightedLine
  lines_from ls = map (λ l. record { line = line_of_cut links l.cut; num = l.num }) ls

  abbrev cuts_from : List CertLine → List CertificateLine
  cuts_from ls = map (λ l. record { cut = l.cut; num = l.num }) ls

  asked_same : (ls : List CertLine) → asked_right (lines_from ls) ≡ asked (cuts_from ls)
  asked_same [] = refl
  asked_same (l ∷ ls) =
      omega (
        arith,
        asked_same ls,
        sum_by-cons (λ (t : WeightedLine). t.num * t.line.right) (record { line = line_of_cut links l.cut; num = l.num }) (lines_from ls),
        sum_by-cons (λ (c : CertificateLine). c.num * c.cut.right) (record { cut = l.cut; num = l.num }) (cuts_from ls),
      )

  given_same : (ls : List CertLine) → given_free (lines_from ls) ≡ given links (cuts_from ls)
  given_same [] = refl
  given_same (l ∷ ls) =
      omega (
        arith,
        given_same ls,
        sum_by-cons (λ (t : WeightedLine). t.num * t.line.given) (record { line = line_of_cut links l.cut; num = l.num }) (lines_from ls),
        sum_by-cons (λ (c : CertificateLine). c.num * fixed_along c.cut.lengths links) (record { cut = l.cut; num = l.num }) (cuts_from ls),
      )

  price_most : (ls : List CertLine) (e m : ℕ) (l : Link) (x : Module) → slice_get links e ≡ Some l → slice_get l.modules m ≡ Some x
      → module_price (lines_from ls) e m ≤ price (cuts_from ls) e * x.capacity
  price_most [] e m l x at inside = omega arith
  price_most (c ∷ ls) e m l x at inside =
      let here : c.num * entry (coefficients_of c.cut.lengths links) e m ≤ c.num * (slice_index c.cut.lengths e * x.capacity) = mul-le-mul_left c.num (coefficient_at c.cut.lengths links e m l x at inside) in
      let more = sum_by-cons (λ (k : CertificateLine). k.num * slice_index k.cut.lengths e) (record { cut = c.cut; num = c.num }) (cuts_from ls) in
      omega (
        arith,
        here,
        price_most ls e m l x at inside,
        sum_by-cons (λ (t : WeightedLine). t.num * entry t.line.coefs e m) (record { line = line_of_cut links c.cut; num = c.num }) (lines_from ls),
        ap (λ s. s * x.capacity) more,
      )

no_loss : (charge price most : ℕ) → price ≤ charge → (price - charge) * most ≡ 0
no_loss charge price most le = let none : price - charge ≡ 0 = omega (arith, le) in omega (arith, ap (λ i. i * most) none)

module _ (p : Case) (plan : Plan) (is : IsCertifiedPlan p plan) (box : TreeBox) where
  no_losses : all_losses p.links box plan.certificate.den (lines_of_plan p.links plan.certificate) ≡ 0
  no_losses =
      over-same p.links _ (λ e m. 0) (λ e m le lm.
      let l = get_some p.links e le in
      let x = get_some l.0.modules m (omega (arith, lm, number_at p.links e l.0 l.1)) in
      let lines = cuts_from p.links plan.certificate.lines in
      let most = price_most p.links plan.certificate.lines e m l.0 x.0 l.1 x.1 in
      let paid : price lines e * x.0.capacity ≤ plan.certificate.den * x.0.cost =
      all_at (λ (y : Module). price lines e * y.capacity ≤ plan.certificate.den * y.cost) l.0.modules m x.0 (is.certificate.priced e l.0 l.1) x.1 in
      no_loss (module_charge p.links plan.certificate.den e m) (module_price (lines_of_plan p.links plan.certificate) e m) (unwrap_or (span_at box e m).most 0)
      (omega (arith, most, paid, ap (λ i. plan.certificate.den * i) (cost_at p.links e m l.0 x.0 l.1 x.1))))
      ∙ over_none p.links

  -- a plan's certificate that is one of a box has a value for it, which is at least the plan's bound
  pub plan_value : IsBoxCertificate p.links box plan.certificate.den (lines_of_plan p.links plan.certificate) → (value : ℕ) × HasPlanValue p.links plan.certificate box value × (plan.bound ≤ value)
  plan_value certificate =
      let terms = lines_of_plan p.links plan.certificate in
      let den = plan.certificate.den in
      let more : raw_value p.links (lines_of_certificate plan.certificate) ≤ value_gains p.links box den terms - value_losses p.links box den terms =
      omega (arith, asked_same p.links plan.certificate.lines, given_same p.links plan.certificate.lines, no_losses) in
      let bound = bound_of p.links (raw_value p.links (lines_of_certificate plan.certificate)) den plan.bound (value_gains p.links box den terms - value_losses p.links box den terms) (let some = certificate.positive in omega (arith, some)) is.rounded more in
      (bound.0, record { certificate = certificate; rounded = bound.1 }, bound.2)
