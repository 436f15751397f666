-- the end: values over one denominator, and programs that stay the same
use Rattle.std.proofs.Common.{◌≡◌, ℕ, ◌<◌, ◌*◌, ◌/◌, ◌^◌, List, length, get_or, refl, sym, ap, subst, ◌∙◌, arith, inl, inr, ⊎_elim, unsigned_abs, Result, Ok, Err, ℤ, pos, negsuc, ◌*ℤ◌, ◌-ℤ◌, ◌<ℤ◌, ◌≤ℤ◌}
use Rattle.net_core.proofs.Library.{◌∣◌, ints, get_or_from_slice_get}
use Rattle.checked_fraction.specs.Terms.{num, IsInLowestTerms}
use Rattle.simplex_law.{specs.Terms.{dot, ColumnOf, IsProgramColumn, IsPacking, IsSlack, IsOptimum, AreNames}, proofs.Lemmas.{dot-same, limited, optimum, greatest, none_gains, value_nonneg, value_low}}
use Rattle.simplex_core.{specs.inner.Commons.{IsFractionOf, AreFractionsOf, HaveFractions, num_of_fraction, den_of_fraction, fraction_den, DivideAll, value_at}, specs.Prices.GainsAt, specs.Tables.{nums_at, den_at}, specs.Programs.{IsSameProgram, Solves, IsSimplexAnswer}, proofs.Solving.IsAt, specs.inner.Outcomes.{HasLowValues, IsValued, IsValuesOutcome, IsBasisOutcome}, specs.inner.Turns.{reduced_cost, Enters, IsDone, HasEntered, IsTurnOutcome}, specs.declared.basis.Basis.Basis, specs.declared.optimum.Optimum.Optimum, specs.declared.solver.SimplexFault.SimplexFault, specs.declared.solver.SimplexFault.TheVariants.{Wide, NoMemory}, specs.declared.solver.Turn.Turn, specs.declared.solver.Turn.TheVariants.{Again, Best, Unbounded, Wide as WideTurn, NoMemory as NoMemoryTurn}, specs.declared.fraction.Fraction.Fraction, specs.declared.value.ValueFault.ValueFault, specs.declared.value.ValueFault.TheVariants.{Sum as SumFault, Common as CommonFault, NoMemory as NoMemoryFault}, proofs.Evidences.end_evidence, proofs.Multiples.numerator_times, proofs.Starts.each_at}

-- a fraction of a row over a common denominator
over_den : (f : Fraction) (x d : ℤ) (den : ℕ) → IsFractionOf x d f → f.den ∣ den → pos 0 ≤ℤ x → pos 0 <ℤ d → pos (f.num * (den / f.den)) *ℤ d ≡ pos den *ℤ x
over_den f x d den is divides high positive =
    whole (f.num * (den / f.den)) den d x positive high (numerator_times f.num f.den den (unsigned_abs d) (unsigned_abs x) is.same divides)
  where
    whole : (v n : ℕ) (d x : ℤ) → pos 0 <ℤ d → pos 0 ≤ℤ x → v * unsigned_abs d ≡ n * unsigned_abs x → pos v *ℤ d ≡ pos n *ℤ x
    whole v n (pos d) (pos x) pd px e = omega (arith, ints, e)
    whole v n (pos d) (negsuc x) pd px e = absurd (omega (arith, ints, px))
    whole v n (negsuc d) x pd px e = absurd (omega (arith, ints, pd))

module _ {N : Type 0} (m : ℕ) (bound : ℕ → ℤ) (slack : ℕ → N) (is_listed : ColumnOf N → Type 0) where
  value_is : (b : Basis N) (fractions : List Fraction) (den j : ℕ) → IsAt m bound slack is_listed b → AreFractionsOf b.rows (num b.bounds) fractions → DivideAll (fraction_den fractions) (length fractions) den → j < m
      → pos (value_at fractions den j) *ℤ den_at b.rows j ≡ pos den *ℤ dot m (nums_at b.rows j) bound
  value_is b fractions den j a are all l =
      let lj : j < length fractions = omega (arith, are.count, a.shaped.rows, l) in
      let f = each_at (λ j f. IsFractionOf (dot (length b.rows) (nums_at b.rows j) (num b.bounds)) (den_at b.rows j) f) fractions j lj are.each in
      let is : dot (length b.rows) (nums_at b.rows j) (num b.bounds) ≡ dot m (nums_at b.rows j) bound =
      ap (λ n. dot n (nums_at b.rows j) (num b.bounds)) a.shaped.rows ∙ dot-same m (nums_at b.rows j) (nums_at b.rows j) (num b.bounds) bound (λ k l. refl) a.bounds in
      subst (λ o. pos (num_of_fraction o * (den / den_of_fraction o)) *ℤ den_at b.rows j ≡ pos den *ℤ dot m (nums_at b.rows j) bound) (sym f.1)
      (over_den f.0 (dot m (nums_at b.rows j) bound) (den_at b.rows j) den
      (subst (λ x. IsFractionOf x (den_at b.rows j) f.0) is f.2)
      (subst (λ o. den_of_fraction o ∣ den) f.1 (all j lj))
      (value_nonneg m bound a.basis (nums_at b.rows) (den_at b.rows) (num b.duals.nums) b.duals.den j a.state l)
      (a.state.over j l))

  pub low_values : (b : Basis N) → IsPacking m bound (IsProgramColumn m slack is_listed) → IsAt m bound slack is_listed b → HasLowValues b
  low_values b packing a fractions den are some narrow all j l =
      value_low m bound (IsProgramColumn m slack is_listed) a.basis (nums_at b.rows) (den_at b.rows) (num b.duals.nums) b.duals.den (λ j. pos (value_at fractions den j)) (pos den) j
      packing a.reached.here.columns a.state (omega (arith, ints, some)) narrow (λ j l. value_is b fractions den j a are all l) (omega (arith, are.count, a.shaped.rows, l))

  pub solves : (b : Basis N) (best : Optimum N) → IsPacking m bound (IsProgramColumn m slack is_listed) → IsAt m bound slack is_listed b → IsDone m is_listed b → IsValued b best → Solves m bound slack is_listed best
  solves b best packing a done v =
      let den = best.den in
      let is : (j : ℕ) → j < m → get_or best.values j 0 ≡ value_at v.fractions den j = λ j l.
      let x = each_at (λ j x. x ≡ value_at v.fractions den j) best.values j (omega (arith, v.count, v.are.count, a.shaped.rows, l)) v.values in
      get_or_from_slice_get best.values j x.0 0 x.1 ∙ x.2 in
      let optimal : IsOptimum m bound (IsProgramColumn m slack is_listed) a.basis (λ j. pos (get_or best.values j 0)) (pos den) (num b.duals.nums) b.duals.den =
      optimum m bound (IsProgramColumn m slack is_listed) a.basis (nums_at b.rows) (den_at b.rows) (num b.duals.nums) b.duals.den (λ j. pos (get_or best.values j 0)) (pos den)
      a.reached.here.columns a.state (subst (λ w. IsInLowestTerms w (num b.duals.nums) b.duals.den) a.shaped.duals b.duals.lowest)
      (none_gains m bound slack is_listed (num b.duals.nums) b.duals.den done.positive done.none)
      (omega (arith, ints, v.den.some)) (λ j l. ap (λ x. pos x *ℤ den_at b.rows j) (is j l) ∙ value_is b v.fractions den j a v.are v.den.all l) in
      record {
        basis = a.basis;
        names = subst (λ names. AreNames m a.basis names) (sym v.names) a.names;
        reached = a.reached;
        optimum = subst (λ duals. IsOptimum m bound (IsProgramColumn m slack is_listed) a.basis (λ j. pos (get_or best.values j 0)) (pos den) (num duals.nums) duals.den) (sym v.duals) optimal;
        greatest = greatest m bound slack is_listed a.basis (λ j. pos (get_or best.values j 0)) (num b.duals.nums) (pos den) b.duals.den optimal;
        narrow = v.den.narrow;
        low = λ j l. subst (λ x. x < 2 ^ 124) (sym (is j l)) (low_values b packing a v.fractions den v.are v.den.some v.den.narrow v.den.all j (omega (arith, v.are.count, a.shaped.rows, l)));
        count = v.count ∙ (v.are.count ∙ a.shaped.rows);
        prices = ap (λ d. length d.nums) v.duals ∙ a.shaped.duals;
        positive = λ k l. subst (λ duals. pos 0 ≤ℤ num duals.nums k) (sym v.duals) (done.positive k l);
      }

  pub answers : (b : Basis N) (result : Result (Optimum N) (SimplexFault N)) → IsPacking m bound (IsProgramColumn m slack is_listed) → IsAt m bound slack is_listed b → IsDone m is_listed b → IsBasisOutcome b result
      → IsSimplexAnswer m bound slack is_listed result
  answers b (Ok best) packing a done e = solves b best packing a done e
  answers b (Err (Wide names kind)) packing a done e = end_evidence m bound slack is_listed b names kind a e.0 e.1
  answers b (Err NoMemory) packing a done e = tt

  -- a row limits each column that gains
  pub some_limit : (b new : Basis N) → IsPacking m bound (IsProgramColumn m slack is_listed) → IsAt m bound slack is_listed b → HasEntered m slack is_listed b Unbounded new → ⊥
  some_limit b new packing a h = limited m bound (IsProgramColumn m slack is_listed) a.basis (nums_at b.rows) (den_at b.rows) (num b.duals.nums) b.duals.den h.column packing a.reached.here.columns h.is_column a.state
      (above (dot m (num b.duals.nums) h.column.entry) (b.duals.den *ℤ h.column.gain) h.gains) h.enters
    where
      above : (x y : ℤ) → (x -ℤ y) <ℤ pos 0 → x <ℤ y
      above x y h = omega (arith, ints, h)

-- a program is the same program as itself
pub same_program : {N : Type 0} (m : ℕ) (bound : ℕ → ℤ) (slack : ℕ → N) (is_listed : ColumnOf N → Type 0) → IsSameProgram m m bound bound slack slack is_listed is_listed
same_program m bound slack is_listed = record {
  count = refl;
  limits = λ k l. refl;
  slacks_are = λ k l. refl;
  listed = λ c. (λ h. h, λ h. h);
}

pub same_trans : {N : Type 0} (m n o : ℕ) (bound bounds limits : ℕ → ℤ) (slack slacks rests : ℕ → N) (is_listed are_listed were_listed : ColumnOf N → Type 0)
    → IsSameProgram m n bound bounds slack slacks is_listed are_listed → IsSameProgram n o bounds limits slacks rests are_listed were_listed → IsSameProgram m o bound limits slack rests is_listed were_listed
same_trans m n o bound bounds limits slack slacks rests is_listed are_listed were_listed s t = record {
  count = t.count ∙ s.count;
  limits = λ k l. t.limits k (omega (arith, s.count, l)) ∙ s.limits k l;
  slacks_are = λ k l. t.slacks_are k (omega (arith, s.count, l)) ∙ s.slacks_are k l;
  listed = λ c. (λ h. (s.listed c).0 ((t.listed c).0 h), λ h. (t.listed c).1 ((s.listed c).1 h));
}

module _ {N : Type 0} (m n : ℕ) (bound bounds : ℕ → ℤ) (slack slacks : ℕ → N) (is_listed are_listed : ColumnOf N → Type 0) (same : IsSameProgram m n bound bounds slack slacks is_listed are_listed) where
  first_column : (c : ColumnOf N) → IsProgramColumn n slacks are_listed c → IsProgramColumn m slack is_listed c
  first_column c h = ⊎_elim
      (λ l. inl ((same.listed c).0 l))
      (λ (s : IsSlack n slacks c). let lt : s.row < m = omega (arith, same.count, s.inside) in inr (record {
        row = s.row;
        inside = lt;
        named = s.named ∙ same.slacks_are s.row lt;
        gain = s.gain;
        entry = λ k l. s.entry k (omega (arith, same.count, l));
      }))
      h

  first_entered : (b : Basis N) (turn : Turn N) (new : Basis N) → HasEntered n slacks are_listed b turn new → HasEntered m slack is_listed b turn new
  first_entered b turn new h = record {
    column = h.column;
    is_column = first_column h.column h.is_column;
    gains = subst (λ k. reduced_cost k b.duals h.column <ℤ pos 0) same.count h.gains;
    enters = subst (λ k. Enters k b h.column turn new) same.count h.enters;
  }

  -- a turn on the one is a turn on the other
  pub first_turn : (b : Basis N) (turn : Turn N) (new : Basis N) → IsTurnOutcome n slacks are_listed b turn new → IsTurnOutcome m slack is_listed b turn new
  first_turn b Best new h = (
    h.0,
    record {
      positive = λ k l. h.1.positive k (omega (arith, same.count, l));
      none = λ c l gains. h.1.none c ((same.listed c).1 l) (subst (λ k. GainsAt k b.duals c) (sym same.count) gains);
    },
  )
  first_turn b NoMemoryTurn new h = h
  first_turn b Again new h = first_entered b Again new h
  first_turn b (WideTurn kind) new h = first_entered b (WideTurn kind) new h
  first_turn b Unbounded new h = first_entered b Unbounded new h

-- where there are no fractions, there are no values
pub no_values : {N : Type 0} (b : Basis N) (fault : ValueFault) → HaveFractions b.rows (num b.bounds) (Err fault) → IsValuesOutcome b (Err fault)
no_values b (SumFault i) wide = wide
no_values b CommonFault none = absurd none
no_values b NoMemoryFault h = h
