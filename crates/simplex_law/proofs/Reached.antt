-- a state's basis is feasible, a turn is a step, and the start is the slack basis
use Rattle.std.proofs.Common.{◌≡◌, ℕ, suc, ◌<◌, refl, sym, ap, ◌∙◌, arith, inl, inr, ⊎_elim, cond, eqb, Bool, true, false, subst, ℤ, pos, ◌-ℤ◌, ◌*ℤ◌, ◌<ℤ◌, ◌≤ℤ◌}
use Rattle.net_core.proofs.Library.{*ℤ-zero, ints, by_lt_z}
use Rattle.simplex_law.{specs.Sums.{dot, put, unit_vector}, specs.Programs.{ColumnOf, IsSlack, slack_basis, IsProgramColumn}, specs.Bases.{IsFeasible, GainingStep, IsReached}, specs.inner.Lexicographic.{IsLexNonneg, valued}, specs.inner.Tableaux.IsTableau, specs.inner.Pivots.IsPick, proofs.Sums.{sum-one, unit-same, unit-other, dot-unit, dot-of-unit}, proofs.Order.lex_at, proofs.Turned.turned_raw}

first_value : (m : ℕ) (b u : ℕ → ℤ) → IsLexNonneg (suc m) (valued m b u) → pos 0 ≤ℤ dot m u b
first_value m b u h = ⊎_elim (λ l. omega (arith, ints, l)) (λ z. omega (arith, ints, z.0)) h

-- the values of a state are 0 or more
pub value_nonneg : {N : Type 0} (m : ℕ) (bound : ℕ → ℤ) (basis : ℕ → ColumnOf N) (nums : ℕ → ℕ → ℤ) (den duals : ℕ → ℤ) (duals_den : ℤ) (i : ℕ) → IsTableau m bound basis nums den duals duals_den → i < m
    → pos 0 ≤ℤ dot m (nums i) bound
value_nonneg m bound basis nums den duals duals_den i s l = first_value m bound (nums i) (s.lex i l)

module _ {N : Type 0} (m : ℕ) (bound : ℕ → ℤ) (is_column : ColumnOf N → Type 0) where
  pub feasible : (basis : ℕ → ColumnOf N) (nums : ℕ → ℕ → ℤ) (den duals : ℕ → ℤ) (duals_den : ℤ) → ((j : ℕ) → j < m → is_column (basis j))
      → IsTableau m bound basis nums den duals duals_den → IsFeasible m bound is_column basis
  feasible basis nums den duals duals_den columns s = record {
    columns = columns;
    filled = λ i l. (nums i, den i, (s.over i l, s.rows i l), first_value m bound (nums i) (s.lex i l));
  }

  step : (basis : ℕ → ColumnOf N) (nums : ℕ → ℕ → ℤ) (den duals : ℕ → ℤ) (duals_den : ℤ) (c : ColumnOf N) (r : ℕ) → is_column c
      → IsTableau m bound basis nums den duals duals_den → IsPick m bound nums duals duals_den c r → GainingStep m is_column basis (put basis r c)
  step basis nums den duals duals_den c r is_c s k = record {
    row = r;
    inside = k.inside;
    enters = c;
    is_column_of = is_c;
    duals = duals;
    den = duals_den;
    objective = (s.above, s.objective);
    gains = less (dot m duals c.entry) (duals_den *ℤ c.gain) k.gains;
    after_is = λ j l. refl;
  }
    where
      less : (x z : ℤ) → (x -ℤ z) <ℤ pos 0 → x <ℤ z
      less x z h = omega (arith, ints, h)

  put_columns : (basis : ℕ → ColumnOf N) (c : ColumnOf N) (r : ℕ) → is_column c → ((j : ℕ) → j < m → is_column (basis j)) → (j : ℕ) → j < m → is_column (put basis r c j)
  put_columns basis c r is_c all j l = by_test (eqb r j)
    where
      by_test : (t : Bool) → is_column (cond t c (basis j))
      by_test true = is_c
      by_test false = all j l

  -- the basis after a turn is reached, whatever becomes of its rows
  pub turn_reached : (first basis : ℕ → ColumnOf N) (nums : ℕ → ℕ → ℤ) (den duals : ℕ → ℤ) (duals_den : ℤ) (c : ColumnOf N) (r : ℕ) → is_column c
      → IsTableau m bound basis nums den duals duals_den → IsPick m bound nums duals duals_den c r
      → IsReached m bound is_column first basis → IsReached m bound is_column first (put basis r c)
  turn_reached first basis nums den duals duals_den c r is_c s k reached = record {
    from = reached.from;
    here = feasible (put basis r c) _ _ _ _ (put_columns basis c r is_c reached.here.columns) (turned_raw m bound basis nums den duals duals_den c r s k);
    steps = suc reached.steps;
    path = (basis, reached.path, reached.here, step basis nums den duals duals_den c r is_c s k);
  }

-- the state of the slack basis
pub started : {N : Type 0} (m : ℕ) (bound : ℕ → ℤ) (slack : ℕ → N) (nums : ℕ → ℕ → ℤ) (den duals : ℕ → ℤ) (duals_den : ℤ)
    → ((k : ℕ) → k < m → pos 0 ≤ℤ bound k)
    → ((i k : ℕ) → i < m → k < m → nums i k ≡ unit_vector i k) → ((i : ℕ) → i < m → den i ≡ pos 1)
    → ((k : ℕ) → k < m → duals k ≡ pos 0) → duals_den ≡ pos 1
    → IsTableau m bound (slack_basis slack) nums den duals duals_den
started m bound slack nums den duals duals_den bounds units ones zeros one = record {
  rows = λ i l j lj. dot-unit m j (nums i) (unit_vector j) lj (λ k h. refl) ∙ (units i j l lj ∙ times_one (den i) (unit_vector i j) (ones i l));
  over = λ i l. subst (λ x. pos 0 <ℤ x) (sym (ones i l)) (omega (arith, ints));
  lex = λ i l. by_lt_z (pos 0) (bound i)
      (λ above. inl (subst (λ x. pos 0 <ℤ x) (sym (dot-of-unit m i (nums i) bound l (λ k h. units i k l h))) above))
      (λ low. inr (
        dot-of-unit m i (nums i) bound l (λ k h. units i k l h) ∙ zero_both (bound i) (bounds i l) low,
        lex_at m i (nums i) l (λ k h. units i k l (omega (arith, h, l)) ∙ unit-other i k (λ e. omega (arith, e, h)))
            (subst (λ x. pos 0 <ℤ x) (sym (units i i l l ∙ unit-same i)) (omega (arith, ints))),
      ));
  objective = λ j lj. dot-unit m j duals (unit_vector j) lj (λ k h. refl) ∙ (zeros j lj ∙ sym (*ℤ-zero duals_den));
  above = subst (λ x. pos 0 <ℤ x) (sym one) (omega (arith, ints));
  filling = (
    (λ j. pos 1),
    pos 1,
    record {
      positive = omega (arith, ints);
      weights = λ j lj. ap (λ s. pos 1 *ℤ s) (ones j lj);
      filled = λ k l lk ll. sum-one m k _ (pos 1 *ℤ unit_vector k l) lk
          (λ j lj ne. ap (λ s. (pos 1 *ℤ nums j l) *ℤ s) (unit-other j k ne) ∙ *ℤ-zero (pos 1 *ℤ nums j l))
          (ap (λ s. (pos 1 *ℤ nums k l) *ℤ s) (unit-same k) ∙ (last_one (pos 1 *ℤ nums k l) ∙ ap (λ s. pos 1 *ℤ s) (units k l lk ll)));
    },
  );
}
  where
    times_one : (d u : ℤ) → d ≡ pos 1 → u ≡ d *ℤ u
    times_one d u e = subst (λ x. u ≡ x *ℤ u) (sym e) (omega (arith, ints))

    last_one : (x : ℤ) → x *ℤ pos 1 ≡ x
    last_one x = omega (arith, ints)

    zero_both : (x : ℤ) → pos 0 ≤ℤ x → x ≤ℤ pos 0 → x ≡ pos 0
    zero_both x a b = omega (arith, ints, a, b)

pub slack_is : {N : Type 0} (m : ℕ) (slack : ℕ → N) (k : ℕ) → k < m → IsSlack m slack (slack_basis slack k)
slack_is m slack k l = record { row = k; inside = l; named = refl; gain = refl; entry = λ i h. refl }

pub start_reached : {N : Type 0} (m : ℕ) (bound : ℕ → ℤ) (slack : ℕ → N) (is_listed : ColumnOf N → Type 0) (nums : ℕ → ℕ → ℤ) (den duals : ℕ → ℤ) (duals_den : ℤ)
    → IsTableau m bound (slack_basis slack) nums den duals duals_den
    → IsReached m bound (IsProgramColumn m slack is_listed) (slack_basis slack) (slack_basis slack)
start_reached m bound slack is_listed nums den duals duals_den s =
    let here = feasible m bound (IsProgramColumn m slack is_listed) (slack_basis slack) nums den duals duals_den (λ j l. inr (slack_is m slack j l)) s in
    record { from = here; here = here; steps = 0; path = λ j l. refl }
