-- what passes the test is an optimum of the master program
use Rattle.std.proofs.Common.{◌≡◌, ℕ, ◌<◌, inl, inr, List, [], All, Contains, get_or, length, slice_index, refl, sym, ap, ◌∙◌, subst, ⊎_elim, arith, ℤ, pos, ◌*ℤ◌, ◌<ℤ◌, ◌≤ℤ◌}
use Rattle.net_core.proofs.Library.{cases_eq, ints, All-contains, All-get_or, Contains-get_or, get_or_default}
use Rattle.checked_fraction.{specs.Terms.{IsInLowestTerms, num}, specs.declared.row.Row.Row, proofs.Products.positive_product}
use Rattle.module_prices.specs.declared.cheapest.UnitPair.{UnitPair}
use Rattle.plan_terms.{specs.Terms.{MasterColumn, Link, CutLine, IsModule}, proofs.Lemmas.lowest_positive}
use Rattle.metric_cut.specs.Bounded.{HaveBound}
use Rattle.simplex_law.{specs.Terms.{ColumnOf, Gains, IsBest, IsFeasible, IsSlack, dot, int_sum, unit_vector}, proofs.Duality.equal_value, proofs.Lemmas.{dot-same, dot-unit}}
use Rattle.master_law.{specs.Terms.{AreUnitPairs, IsCutColumn, IsMasterColumn, cut_entry, cut_gain, master_bound, master_slack, unit_capacities}, proofs.Columns.pair_below}
use Rattle.master_bound.{specs.Answers.cut_at, specs.Optima.IsMasterOptimum}
use Rattle.length_master.{specs.declared.slot.Slot.Slot, specs.declared.slot.Slot.TheVariants.{Slack, Cut}, specs.declared.row.KeptRow.KeptRow, specs.inner.Slots.{IsPlacedRow, IsSlotInside, row_at, slot_column, slot_entry, slot_gain, slot_lengths}, specs.inner.Tests.{AreBasicValues, AreBestPrices, AreNamesBelow}, proofs.Scaling.{HasMultiple, multiple_of, taken, taken_lengths, taken_slack, unit_scaled, worth_nonneg}}

abbrev no_line : CutLine
no_line = record { state = record { 0 = 0 }; lengths = []; right = 0 }

module _ (links : List Link) (pairs : List UnitPair) (cuts : List CutLine) (sound : All (λ l. All IsModule l.modules) links) (units : AreUnitPairs links pairs)
    (bound : All (λ (cut : CutLine). HaveBound links cut.lengths) cuts) where
  -- a cut of the list has lengths on links with a unit pair alone
  no_length : (cut : CutLine) → HaveBound links cut.lengths → (e : ℕ) → e < length links → slice_index (unit_capacities pairs) e ≡ 0 → slice_index cut.lengths e ≡ 0
  no_length cut has e inside none =
      let q = pair_below links pairs sound units e inside in
      ⊎_elim
      (λ gone. gone)
      (λ some. absurd (⊎_elim
      (λ empty. has.served e q.0 q.1 some empty.0)
      (λ pair. let above : 0 < q.2.pair.capacity = lowest_positive pair.cheapest.cost pair.cheapest.capacity q.2.pair.cost q.2.pair.capacity (All-contains IsModule q.0.modules pair.cheapest q.2.modules pair.least.one).carries pair.lowest in
      omega (arith, above, q.2.capacity, none))
      q.2.is_pair))
      (cases_eq (slice_index cut.lengths e) 0)

  has_bound : (k : ℕ) → k < length cuts → HaveBound links (cut_at cuts k).lengths
  has_bound k l = All-get_or (λ (cut : CutLine). HaveBound links cut.lengths) cuts k no_line l bound

  -- slots that are there have columns of the program
  is_column : (slot : Slot) → IsSlotInside (length links) (length cuts) slot → IsMasterColumn links pairs cuts (slot_column links pairs cuts slot)
  is_column (Slack e) l = inr (record { row = e; inside = l; named = refl; gain = refl; entry = λ k h. refl })
  is_column (Cut k) l = inl (record { cut = cut_at cuts k; listed = Contains-get_or cuts k no_line l; named = refl; gain = refl; entry = λ e h. refl })

  abbrev pub many : HasMultiple (length links) (λ e. slice_index (unit_capacities pairs) e)
  many = multiple_of (length links) (λ e. slice_index (unit_capacities pairs) e)

  -- how often a row of the program holds one over lengths
  abbrev pub factor : Slot → ℕ
  factor (Slack e) = many.parts e
  factor (Cut k) = many.all

  factor_some : (slot : Slot) → 0 < factor slot
  factor_some (Slack e) = many.parts_some e
  factor_some (Cut k) = many.some

  -- products with slots, in the program and over lengths
  pub taken_slot : (u : ℕ → ℤ) (slot : Slot) → IsSlotInside (length links) (length cuts) slot
      → dot (length links) (taken u many.parts) (slot_entry pairs cuts slot) ≡ pos (factor slot) *ℤ dot (length links) u (slot_lengths cuts slot)
  taken_slot u (Slack e) l = taken_slack (length links) e many.parts u l
  taken_slot u (Cut k) l = taken_lengths (length links) (λ e. slice_index (unit_capacities pairs) e) many u (λ e. slice_index (cut_at cuts k).lengths e) (no_length (cut_at cuts k) (has_bound k l))

  module _ (rows : List KeptRow) (values : List ℕ) (den : ℕ) (basic : AreBasicValues (length links) pairs cuts rows values den) where
    abbrev pub slot : ℕ → Slot
    slot j = (row_at rows j).slot

    pub placed : (j : ℕ) → j < length links → IsPlacedRow (length links) (length cuts) (row_at rows j)
    placed j l = subst (λ n. IsPlacedRow n (length cuts) (row_at rows j)) basic.rows_count (basic.placed j (subst (λ n. j < n) (sym basic.rows_count) l))

    abbrev pub basis : ℕ → ColumnOf MasterColumn
    basis j = slot_column links pairs cuts (slot j)

    abbrev row_den : ℕ → ℤ
    row_den i = (row_at rows i).den *ℤ pos (factor (slot i))

    abbrev row_nums : ℕ → ℕ → ℤ
    row_nums i = taken (num (row_at rows i).nums) many.parts

    some_pos : (n : ℕ) → 0 < n → pos 0 <ℤ pos n
    some_pos n h = omega (arith, ints, h)

    row_over : (i : ℕ) → i < length links → pos 0 <ℤ row_den i
    row_over i l = positive_product (row_at rows i).den (pos (factor (slot i))) (placed i l).positive (some_pos (factor (slot i)) (factor_some (slot i)))

    product : (i j : ℕ) → i < length links → j < length links → dot (length links) (num (row_at rows i).nums) (slot_lengths cuts (slot j)) ≡ (row_at rows i).den *ℤ unit_vector i j
    product i j li lj =
        subst (λ n. dot n (num (row_at rows i).nums) (slot_lengths cuts (slot j)) ≡ (row_at rows i).den *ℤ unit_vector i j) basic.rows_count
        (basic.inverse i (subst (λ n. i < n) (sym basic.rows_count) li) j (subst (λ n. j < n) (sym basic.rows_count) lj))

    is_row : (i : ℕ) → i < length links → (j : ℕ) → j < length links → dot (length links) (row_nums i) (slot_entry pairs cuts (slot j)) ≡ row_den i *ℤ unit_vector i j
    is_row i li j lj =
        taken_slot (num (row_at rows i).nums) (slot j) (placed j lj).inside
        ∙ (ap (λ t. pos (factor (slot j)) *ℤ t) (product i j li lj)
        ∙ unit_scaled i j (pos (factor (slot i))) (pos (factor (slot j))) (row_at rows i).den (λ e. ap (λ k. pos (factor (slot k))) e))

    filled : (e : ℕ) → e < length links → int_sum (length links) (λ j. pos (get_or values j 0) *ℤ slot_entry pairs cuts (slot j) e) ≡ pos den *ℤ master_bound pairs e
    filled e l =
        subst (λ n. int_sum n (λ j. pos (get_or values j 0) *ℤ slot_entry pairs cuts (slot j) e) ≡ pos den *ℤ master_bound pairs e) basic.rows_count
        (basic.filled e (subst (λ n. e < n) (sym units.count) l))

    value_high : (j : ℕ) → pos 0 ≤ℤ pos (get_or values j 0)
    value_high j = omega (arith, ints)

    feasible : IsFeasible (length links) (master_bound pairs) (IsMasterColumn links pairs cuts) basis
    feasible = record {
      columns = λ j l. is_column (slot j) (placed j l).inside;
      filled = λ i l. (
        row_nums i,
        row_den i,
        (row_over i l, is_row i l),
        worth_nonneg (length links) i (λ j. pos (get_or values j 0)) (row_nums i) (master_bound pairs) (λ j. slot_entry pairs cuts (slot j)) (row_den i) (pos den) l (row_over i l) (some_pos den basic.some) (value_high i)
            (is_row i l) filled,
      );
    }

    -- prices over a denominator that aren't negative, at which the columns of the basis gain what they cost, and no cut gains more
    module _ (prices : ℕ → ℤ) (over : ℤ) (positive : pos 0 <ℤ over) (high : (e : ℕ) → e < length links → pos 0 ≤ℤ prices e)
        (even : (j : ℕ) → j < length links → dot (length links) prices (slot_entry pairs cuts (slot j)) ≡ over *ℤ slot_gain links cuts (slot j))
        (priced : (k : ℕ) → k < length cuts → (over *ℤ cut_gain links (cut_at cuts k)) ≤ℤ dot (length links) prices (cut_entry pairs (cut_at cuts k))) where
      not_less : (a b : ℤ) → b ≤ℤ a → a <ℤ b → ⊥
      not_less a b le lt = omega (arith, ints, le, lt)

      none : (c : ColumnOf MasterColumn) → IsMasterColumn links pairs cuts c → Gains (length links) prices over c → ⊥
      none c is gains = ⊎_elim
          (λ (cut : IsCutColumn links pairs cuts c).
          let at : cut_at cuts cut.listed.0 ≡ cut.cut = found cut.cut cut.listed in
          let inside : cut.listed.0 < length cuts = inside_of cut.cut cut.listed in
          let more = subst (λ (x : CutLine). (over *ℤ cut_gain links x) ≤ℤ dot (length links) prices (cut_entry pairs x)) at (priced cut.listed.0 inside) in
          not_less (dot (length links) prices c.entry) (over *ℤ c.gain)
          (subst (λ g. (over *ℤ g) ≤ℤ dot (length links) prices c.entry) (sym cut.gain)
          (subst (λ d. (over *ℤ cut_gain links cut.cut) ≤ℤ d) (sym (dot-same (length links) prices prices c.entry (cut_entry pairs cut.cut) (λ k l. refl) cut.entry)) more)) gains)
          (λ (slack : IsSlack (length links) master_slack c).
          let price : dot (length links) prices c.entry ≡ prices slack.row = dot-unit (length links) slack.row prices c.entry slack.inside slack.entry in
          slack_low (dot (length links) prices c.entry) (prices slack.row) over c.gain price (high slack.row slack.inside) slack.gain gains)
          is
        where
          slack_low : (d p den gain : ℤ) → d ≡ p → pos 0 ≤ℤ p → gain ≡ pos 0 → d <ℤ (den *ℤ gain) → ⊥
          slack_low d p den gain same high nothing less = omega (arith, ints, same, high, less, ap (λ t. den *ℤ t) nothing)

          inside_of : (cut : CutLine) (held : Contains cuts cut) → held.0 < length cuts
          inside_of cut held = held.1

          found : (cut : CutLine) (held : Contains cuts cut) → cut_at cuts held.0 ≡ cut
          found cut held = get_or_default cuts held.0 no_line cut held.1 ∙ held.2

      pub best : IsBest (length links) (master_bound pairs) (IsMasterColumn links pairs cuts) basis prices over
      best = record { feasible = feasible; objective = (positive, even); none = none }

    module _ (duals : Row) (prices : AreBestPrices links pairs cuts rows duals) where
      even_row : (j : ℕ) → j < length links → dot (length links) (num duals.nums) (slot_entry pairs cuts (slot j)) ≡ duals.den *ℤ slot_gain links cuts (slot j)
      even_row j l =
          subst (λ n. dot n (num duals.nums) (slot_entry pairs cuts (slot j)) ≡ duals.den *ℤ slot_gain links cuts (slot j)) prices.count
          (prices.even j (subst (λ n. j < n) (sym basic.rows_count) l))

      cut_priced : (k : ℕ) → k < length cuts → (duals.den *ℤ cut_gain links (cut_at cuts k)) ≤ℤ dot (length links) (num duals.nums) (cut_entry pairs (cut_at cuts k))
      cut_priced k l = subst (λ n. (duals.den *ℤ cut_gain links (cut_at cuts k)) ≤ℤ dot n (num duals.nums) (cut_entry pairs (cut_at cuts k))) prices.count (prices.none k l)

      high_row : (k : ℕ) → k < length links → pos 0 ≤ℤ num duals.nums k
      high_row k l = prices.positive k (subst (λ n. k < n) (sym prices.count) l)

      pub optimal : (names : List MasterColumn) → AreNamesBelow cuts rows (length rows) names → IsMasterOptimum links pairs cuts (record { basis = names; den = den; values = values; duals = duals })
      optimal names named = record {
        basis = basis;
        names = record { count = named.count ∙ basic.rows_count; each = λ j l. named.each j (subst (λ n. j < n) (sym basic.rows_count) l) };
        optimum = record {
          best = best (num duals.nums) duals.den duals.positive high_row even_row cut_priced;
          lowest = subst (λ n. IsInLowestTerms n (num duals.nums) duals.den) prices.count duals.lowest;
          positive = some_pos den basic.some;
          values_positive = λ j l. value_high j;
          filled = filled;
          equal = equal_value (length links) (λ j. pos (get_or values j 0)) (λ j. slot_gain links cuts (slot j)) (num duals.nums) (master_bound pairs) (λ j. slot_entry pairs cuts (slot j)) duals.den (pos den) even_row filled;
        };
        narrow = basic.narrow;
        count = basic.count ∙ basic.rows_count;
        prices = prices.count;
        positive = high_row;
      }
