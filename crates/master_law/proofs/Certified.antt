-- the cuts of an optimum are a valid certificate, whose raw value is the cost of the share of its objective row
use Rattle.std.proofs.Common.{◌≡◌, ℕ, zero, suc, ◌*◌, ◌<◌, ◌≤◌, List, [], ◌∷◌, All, Some, true, false, cond, eqb, length, sum_by, zip, slice_get, slice_index, get_or, refl, sym, ap, ◌∙◌, arith, subst, ⊎_elim, mul-le-mul_left, ℤ, pos, ◌+ℤ◌, ◌*ℤ◌, ◌≤ℤ◌}
use Rattle.net_core.proofs.Library.{sum_by-cons, All-from_recursion, All-contains, All-from_get_or, All-get_or, slice_get_within, le_of_mul-le-mul_left, *ℤ-zero, pos-*ℤ-pos, ints, below-same, below-first, below-none, below-times}
use Rattle.module_prices.specs.declared.cheapest.UnitPair.{UnitPair}
use Rattle.plan_terms.{specs.Terms.{MasterColumn, Link, Module, CutLine, IsModule, sum_below, CertificateLine, price, asked, given, raw_value}, proofs.Lemmas.{along_fixed, fixed_of, given_priced, lowest_positive}}
use Rattle.plan_types.specs.declared.quality.Share.{Share}
use Rattle.route_law.proofs.Lemmas.{sum-pos, below-both}
use Rattle.simplex_law.{specs.Terms.{int_sum, dot, unit_vector, ColumnOf, IsSlack, IsOptimum, FitBounds}, proofs.Lemmas.{greatest, distribute_left, le_times, sum-same, sum-le, sum-plus}}
use Rattle.master_law.{specs.BasisLines.AreLinesOf, specs.MasterPrograms.{master_bound, master_slack, unit_capacities, unit_costs, column_lengths, column_given, IsCutColumn, IsMasterColumn}, specs.UnitPairs.{AreUnitPairs, share_cost}, proofs.Columns.pair_at}

times_out : (n : ℕ) (v f : ℕ → ℕ) (c : ℕ) → sum_below n (λ j. v j * (f j * c)) ≡ sum_below n (λ j. v j * f j) * c
times_out zero v f c = omega arith
times_out (suc n) v f c = omega (arith, times_out n v f c)

-- what the pre-installed capacities give along the lines of the first n columns of a basis
pub given_is : (links : List Link) (n : ℕ) (basis : ℕ → ColumnOf MasterColumn) (amounts : ℕ → ℕ) (lines : List CertificateLine) → AreLinesOf links n basis amounts lines
    → pos (given links lines) ≡ int_sum n (λ j. pos (amounts j) *ℤ pos (column_given links (basis j).name))
given_is links n basis amounts lines of =
    let m = length links in
    let taken : ℕ → ℕ → ℕ = λ j e. slice_index (column_lengths (basis j).name) e in
    let fixed : ℕ → ℕ = λ e. slice_index (fixed_of links) e in
    ap pos (given_priced links lines
    ∙ (below-same m (λ e. price lines e * fixed e) (λ e. sum_below n (λ j. amounts j * (taken j e * fixed e)))
    (λ e l. ap (λ x. x * fixed e) (of.price_is e) ∙ sym (times_out n amounts (λ j. taken j e) (fixed e)))
    ∙ (below-both m n (λ e j. amounts j * (taken j e * fixed e))
    ∙ below-same n (λ j. sum_below m (λ e. amounts j * (taken j e * fixed e))) (λ j. amounts j * column_given links (basis j).name)
    (λ j l. below-times m (amounts j) (λ e. taken j e * fixed e) ∙ ap (λ x. amounts j * x) (sym (along_fixed (column_lengths (basis j).name) links))))))
    ∙ (sym (sum-pos n (λ j. amounts j * column_given links (basis j).name))
    ∙ sum-same n (λ j. pos (amounts j * column_given links (basis j).name)) (λ j. pos (amounts j) *ℤ pos (column_given links (basis j).name)) (λ j l. sym (pos-*ℤ-pos (amounts j) (column_given links (basis j).name))))

pub cost_sum : (pairs : List UnitPair) (units : List ℕ) → sum_by (λ p. p.0.cost * p.1) (zip pairs units) ≡ sum_below (length pairs) (λ e. slice_index units e * slice_index (unit_costs pairs) e)
cost_sum [] units = refl
cost_sum (p ∷ ps) [] = sym (below-same (suc (length ps)) (λ e. 0 * slice_index (unit_costs (p ∷ ps)) e) (λ e. 0) (λ e l. omega arith) ∙ below-none (suc (length ps)))
cost_sum (p ∷ ps) (u ∷ us) = omega (arith, sum_by-cons (λ (q : UnitPair × ℕ). q.0.cost * q.1) (p, u) (zip ps us), below-first (length ps) (λ e. slice_index (u ∷ us) e * slice_index (unit_costs (p ∷ ps)) e), cost_sum ps us)

-- where a unit's price is at most its cost, so is each module's
module_priced : (p den c k capacity cost : ℕ) (m : Module) → p * c ≤ den * k → cost * c ≡ k * capacity → 0 < c → 0 < capacity → cost * m.capacity ≤ m.cost * capacity → p * m.capacity ≤ den * m.cost
module_priced p den c k capacity cost m low same pc pa least =
    let one : c * (p * capacity) ≤ c * (den * cost) = omega (arith, mul-le-mul_left capacity low, ap (λ s. den * s) same) in
    let two : p * capacity ≤ den * cost = le_of_mul-le-mul_left one pc in
    let three : m.capacity * (p * capacity) ≤ m.capacity * (den * cost) = mul-le-mul_left m.capacity two in
    let four : den * (cost * m.capacity) ≤ den * (m.cost * capacity) = mul-le-mul_left den least in
    let five : capacity * (p * m.capacity) ≤ capacity * (den * m.cost) = omega (arith, three, four) in
    le_of_mul-le-mul_left five pa

module _ (links : List Link) (pairs : List UnitPair) (cuts : List CutLine) where
  -- what a column takes of a link is at least its length there, in units
  entry_low : (c : ColumnOf MasterColumn) (e : ℕ) → e < length links → IsMasterColumn links pairs cuts c → pos (slice_index (column_lengths c.name) e * slice_index (unit_capacities pairs) e) ≤ℤ c.entry e
  entry_low c e l is = ⊎_elim
      (λ (of_cut : IsCutColumn links pairs cuts c).
      let name : column_lengths c.name ≡ of_cut.cut.lengths = ap column_lengths of_cut.named in
      subst (λ ls. pos (slice_index ls e * slice_index (unit_capacities pairs) e) ≤ℤ c.entry e) (sym name)
      (subst (λ x. pos (slice_index of_cut.cut.lengths e * slice_index (unit_capacities pairs) e) ≤ℤ x) (sym (of_cut.entry e l)) (same (pos (slice_index of_cut.cut.lengths e * slice_index (unit_capacities pairs) e)))))
      (λ (slacks : IsSlack (length links) master_slack c).
      let name : column_lengths c.name ≡ [] = ap column_lengths slacks.named in
      subst (λ ls. pos (slice_index ls e * slice_index (unit_capacities pairs) e) ≤ℤ c.entry e) (sym name)
      (subst (λ x. pos (0 * slice_index (unit_capacities pairs) e) ≤ℤ x) (sym (slacks.entry e l)) (unit_high slacks.row)))
      is
    where
      same : (x : ℤ) → x ≤ℤ x
      same x = omega (arith, ints)

      unit_high : (i : ℕ) → pos (0 * slice_index (unit_capacities pairs) e) ≤ℤ unit_vector i e
      unit_high i = elim (eqb i e) as (λ t. pos (0 * slice_index (unit_capacities pairs) e) ≤ℤ cond t (pos 1) (pos 0)) [ true ↦ omega (arith, ints) | false ↦ omega (arith, ints) ]

  module _ (basis : ℕ → ColumnOf MasterColumn) (amounts : ℕ → ℕ) (den : ℕ) (duals : ℕ → ℤ) (duals_den : ℤ)
      (o : IsOptimum (length links) (master_bound pairs) (IsMasterColumn links pairs cuts) basis (λ j. pos (amounts j)) (pos den) duals duals_den) (lines : List CertificateLine) (of : AreLinesOf links (length links) basis amounts lines) where
    -- the unit of each link is priced at most at its cost
    unit_priced : (e : ℕ) → e < length links → price lines e * slice_index (unit_capacities pairs) e ≤ den * slice_index (unit_costs pairs) e
    unit_priced e l =
        let c = slice_index (unit_capacities pairs) e in
        let taken : ℕ → ℕ = λ j. slice_index (column_lengths (basis j).name) e in
        let low = sum-le (length links) (λ j. pos (amounts j) *ℤ pos (taken j * c)) (λ j. pos (amounts j) *ℤ (basis j).entry e)
        (λ j lj. le_times (pos (amounts j)) (pos (taken j * c)) ((basis j).entry e) (omega (arith, ints)) (entry_low (basis j) e l (o.best.feasible.columns j lj))) in
        let left : int_sum (length links) (λ j. pos (amounts j) *ℤ pos (taken j * c)) ≡ pos (price lines e * c) =
        sum-same (length links) _ (λ j. pos (amounts j * (taken j * c))) (λ j lj. pos-*ℤ-pos (amounts j) (taken j * c))
        ∙ (sum-pos (length links) (λ j. amounts j * (taken j * c)) ∙ ap pos (times_out (length links) amounts taken c ∙ ap (λ x. x * c) (sym (of.price_is e)))) in
        let right = o.filled e l in
        omega (arith, ints, low, left, right, pos-*ℤ-pos den (slice_index (unit_costs pairs) e))

    -- no module's price exceeds its cost
    pub modules_priced : All (λ l. All IsModule l.modules) links → AreUnitPairs links pairs
        → (e : ℕ) (l : Link) → slice_get links e ≡ Some l → All (λ m. price lines e * m.capacity ≤ den * m.cost) l.modules
    modules_priced sound units e l at =
        let q = pair_at links pairs sound units e l at in
        let inside : e < length links = slice_get_within links e l at in
        let low : price lines e * q.pair.capacity ≤ den * q.pair.cost = omega (arith, unit_priced e inside, ap (λ x. price lines e * x) q.capacity, ap (λ x. den * x) q.cost) in
        ⊎_elim
        (λ empty. subst (λ ms. All (λ m. price lines e * m.capacity ≤ den * m.cost) ms) (sym empty.0) (All-from_recursion (λ m. price lines e * m.capacity ≤ den * m.cost) [] tt))
        (λ some. let cheapest = some.cheapest in
        let pa : 0 < cheapest.capacity = (All-contains IsModule l.modules cheapest q.modules some.least.one).carries in
        let pc : 0 < q.pair.capacity = lowest_positive cheapest.cost cheapest.capacity q.pair.cost q.pair.capacity pa some.lowest in
        All-from_get_or (λ m. price lines e * m.capacity ≤ den * m.cost) l.modules cheapest
        (λ i li. module_priced (price lines e) den q.pair.capacity q.pair.cost cheapest.capacity cheapest.cost (get_or l.modules i cheapest) low some.lowest.same pc pa
        (All-get_or (λ m. cheapest.cost * m.capacity ≤ m.cost * cheapest.capacity) l.modules i cheapest li some.least.least)))
        q.is_pair

    -- what is gained is what is asked for beyond what is given
    gained_is : pos (asked lines) ≡ int_sum (length links) (λ j. pos (amounts j) *ℤ (basis j).gain) +ℤ pos (given links lines)
    gained_is =
        let m = length links in
        let gained : ℤ = int_sum m (λ j. pos (amounts j) *ℤ (basis j).gain) in
        of.asked_is ∙ (sum-same m _ _ (λ j l. distribute_left (basis j).gain (pos (column_given links (basis j).name)) (pos (amounts j)))
        ∙ (sum-plus m (λ j. pos (amounts j) *ℤ (basis j).gain) (λ j. pos (amounts j) *ℤ pos (column_given links (basis j).name)) ∙ ap (λ x. gained +ℤ x) (sym (given_is links m basis amounts lines of))))

    -- the gain is the raw value, and never negative
    pub raw_is_gained : (given links lines ≤ asked lines) × (int_sum (length links) (λ j. pos (amounts j) *ℤ (basis j).gain) ≡ pos (raw_value links lines))
    raw_is_gained =
        let m = length links in
        let gained : ℤ = int_sum m (λ j. pos (amounts j) *ℤ (basis j).gain) in
        let nothing : FitBounds 0 m (λ c. (basis c).entry) (master_bound pairs) (λ c. pos 0) (pos 1) =
        record { positive = omega (arith, ints); amounts_positive = λ c l. absurd (omega (arith, l)); within = λ e l. omega (arith, ints) } in
        let best = greatest m (master_bound pairs) master_slack (IsCutColumn links pairs cuts) basis (λ j. pos (amounts j)) duals (pos den) duals_den o 0 basis (λ c. pos 0) (pos 1) (λ c l. absurd (omega (arith, l))) nothing in
        let high : pos 0 ≤ℤ gained = omega (arith, ints, best, *ℤ-zero (pos den)) in
        let le : given links lines ≤ asked lines = omega (arith, ints, gained_is, high) in
        (le, omega (arith, ints, gained_is, le))

    -- the raw value of the certificate is the cost of the share
    pub raw_is_cost : (share : Share) → length pairs ≡ length links → duals_den ≡ pos share.scale → ((e : ℕ) → e < length links → duals e ≡ pos (slice_index share.units e))
        → (given links lines ≤ asked lines) × (raw_value links lines * share.scale ≡ share_cost pairs share * den)
    raw_is_cost share count_pairs scale units =
        let m = length links in
        let cost = share_cost pairs share in
        let gained : ℤ = int_sum m (λ j. pos (amounts j) *ℤ (basis j).gain) in
        let worth : dot m duals (master_bound pairs) ≡ pos cost =
        sum-same m _ (λ e. pos (slice_index share.units e * slice_index (unit_costs pairs) e))
        (λ e l. ap (λ x. x *ℤ master_bound pairs e) (units e l) ∙ pos-*ℤ-pos (slice_index share.units e) (slice_index (unit_costs pairs) e))
        ∙ (sum-pos m (λ e. slice_index share.units e * slice_index (unit_costs pairs) e)
        ∙ ap pos (ap (λ n. sum_below n (λ e. slice_index share.units e * slice_index (unit_costs pairs) e)) (sym count_pairs) ∙ sym (cost_sum pairs share.units))) in
        let equal : pos share.scale *ℤ gained ≡ pos (den * cost) =
        ap (λ x. x *ℤ gained) (sym scale) ∙ (o.equal ∙ (ap (λ x. pos den *ℤ x) worth ∙ pos-*ℤ-pos den cost)) in
        let whole : pos (share.scale * raw_value links lines) ≡ pos (den * cost) =
        sym (pos-*ℤ-pos share.scale (raw_value links lines)) ∙ (ap (λ x. pos share.scale *ℤ x) (sym raw_is_gained.1) ∙ equal) in
        (raw_is_gained.0, omega (arith, ints, whole))
