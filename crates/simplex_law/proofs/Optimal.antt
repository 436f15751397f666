-- a state at whose duals no column gains gives an optimum
use Rattle.std.proofs.Common.{◌≡◌, ℕ, ◌<◌, refl, sym, ap, ◌∙◌, arith, inr, ⊎_elim, subst, ℤ, pos, ◌*ℤ◌, ◌<ℤ◌, ◌≤ℤ◌}
use Rattle.net_core.proofs.Library.{*ℤ-zero, ints, by_lt_z}
use Rattle.checked_fraction.specs.Terms.{IsInLowestTerms}
use Rattle.simplex_law.{specs.Sums.{int_sum, dot, unit_vector}, specs.Programs.{ColumnOf, IsSlack, slack_basis, IsProgramColumn}, specs.Bases.Gains, specs.Optima.{IsOptimum, IsGreatestGain}, specs.inner.Tableaux.IsTableau, proofs.Arithmetic.{moved_out, le_times, le_cancel, weaken}, proofs.Sums.dot-unit, proofs.Duality.{packing_duality, equal_value}, proofs.Filling.filled_over, proofs.Values.values_nonneg, proofs.Reached.{feasible, slack_is}}

-- no listed column and no slack gains at duals of 0 or more
pub none_gains : {N : Type 0} (m : ℕ) (bound : ℕ → ℤ) (slack : ℕ → N) (is_listed : ColumnOf N → Type 0) (duals : ℕ → ℤ) (duals_den : ℤ)
    → ((k : ℕ) → k < m → pos 0 ≤ℤ duals k) → ((c : ColumnOf N) → is_listed c → dot m duals c.entry <ℤ (duals_den *ℤ c.gain) → ⊥)
    → (c : ColumnOf N) → IsProgramColumn m slack is_listed c → Gains m duals duals_den c → ⊥
none_gains m bound slack is_listed duals duals_den high none c is_c gains = ⊎_elim
    (λ listed. none c listed gains)
    (λ (slacks : IsSlack m slack c). let at = dot-unit m slacks.row duals c.entry slacks.inside slacks.entry in
    let zero_gain : duals_den *ℤ c.gain ≡ pos 0 = ap (λ g. duals_den *ℤ g) slacks.gain ∙ *ℤ-zero duals_den in
    let up = high slacks.row slacks.inside in
    absurd (omega (arith, ints, at, zero_gain, up, gains)))
    is_c

-- values over a common denominator, each the fraction of its row times the bounds
pub optimum : {N : Type 0} (m : ℕ) (bound : ℕ → ℤ) (is_column : ColumnOf N → Type 0) (basis : ℕ → ColumnOf N) (nums : ℕ → ℕ → ℤ) (den duals : ℕ → ℤ) (duals_den : ℤ) (values : ℕ → ℤ) (common : ℤ)
    → ((j : ℕ) → j < m → is_column (basis j)) → IsTableau m bound basis nums den duals duals_den → IsInLowestTerms m duals duals_den
    → ((c : ColumnOf N) → is_column c → Gains m duals duals_den c → ⊥)
    → pos 0 <ℤ common → ((j : ℕ) → j < m → values j *ℤ den j ≡ common *ℤ dot m (nums j) bound)
    → IsOptimum m bound is_column basis values common duals duals_den
optimum m bound is_column basis nums den duals duals_den values common columns s lowest none pc values_are = record {
  best = record {
    feasible = feasible m bound is_column basis nums den duals duals_den columns s;
    objective = (s.above, s.objective);
    none = none;
  };
  lowest = lowest;
  positive = pc;
  values_positive = λ j lj. values_nonneg m bound basis nums den duals duals_den values common j s pc (values_are j lj) lj;
  filled = filled;
  equal = equal_value m values (λ j. (basis j).gain) duals bound (λ j. (basis j).entry) duals_den common s.objective filled;
}
  where
    filled : (k : ℕ) → k < m → int_sum m (λ j. values j *ℤ (basis j).entry k) ≡ common *ℤ bound k
    filled = filled_over m (λ j. (basis j).entry) nums den s.filling.0 bound values s.filling.1 common s.filling.2 values_are

-- no amounts of a program's columns gain more than an optimum
pub greatest : {N : Type 0} (m : ℕ) (bound : ℕ → ℤ) (slack : ℕ → N) (is_listed : ColumnOf N → Type 0) (basis : ℕ → ColumnOf N) (values duals : ℕ → ℤ) (den duals_den : ℤ)
    → IsOptimum m bound (IsProgramColumn m slack is_listed) basis values den duals duals_den
    → IsGreatestGain m bound (IsProgramColumn m slack is_listed) (int_sum m (λ j. values j *ℤ (basis j).gain)) den
greatest m bound slack is_listed basis values duals den duals_den o count columns amounts scale are fits =
    let weak = packing_duality count m (λ c. (columns c).entry) (λ c. (columns c).gain) bound amounts duals scale duals_den fits
    (record { duals_positive = high; none = λ c l. at_least (dot m duals ((columns c).entry)) (duals_den *ℤ (columns c).gain) (o.best.none (columns c) (are c l)) }) in
    le_cancel duals_den (den *ℤ total) (scale *ℤ best) o.best.objective.0
    (subst (λ x. x ≤ℤ (duals_den *ℤ (scale *ℤ best))) (moved_out den duals_den total)
    (subst (λ x. (den *ℤ (duals_den *ℤ total)) ≤ℤ x) right
    (le_times den (duals_den *ℤ total) (scale *ℤ dot m duals bound) (weaken den o.positive) weak)))
  where
    total : ℤ
    total = int_sum count (λ c. amounts c *ℤ (columns c).gain)

    best : ℤ
    best = int_sum m (λ j. values j *ℤ (basis j).gain)

    at_least : (x z : ℤ) → (x <ℤ z → ⊥) → z ≤ℤ x
    at_least x z never = by_lt_z x z (λ l. absurd (never l)) (λ h. h)

    right : den *ℤ (scale *ℤ dot m duals bound) ≡ duals_den *ℤ (scale *ℤ best)
    right = moved_out den scale (dot m duals bound) ∙ (ap (λ x. scale *ℤ x) (sym o.equal) ∙ moved_out scale duals_den best)

    high : (k : ℕ) → k < m → pos 0 ≤ℤ duals k
    high k l = by_lt_z (duals k) (pos 0)
        (λ below. absurd (o.best.none (slack_basis slack k) (inr (slack_is m slack k l))
        (subst (λ x. x <ℤ (duals_den *ℤ pos 0)) (sym (dot-unit m k duals (unit_vector k) l (λ i h. refl))) (subst (λ z. duals k <ℤ z) (sym (*ℤ-zero duals_den)) below))))
        (λ h. h)
