-- prices of the links' capacity that pass the test are those of a least share
use Rattle.std.{proofs.Common.{◌≡◌, ℕ, zero, suc, ◌+◌, ◌*◌, ◌<◌, List, All, length, map, replicate, slice_index, refl, sym, ap, ◌∙◌, subst, arith, unsigned_abs, ℤ, pos, ◌*ℤ◌, ◌<ℤ◌, ◌≤ℤ◌}, proofs.lemmas.Grind.same_number_lists}
use Rattle.net_core.proofs.Library.{All-get_or, get_or-map, get_or-replicate, ints, length-map, length-replicate, unsigned_abs-mul, *ℤ-zero, ◌∣◌, get_or-map-range_with_len, length-map-range_with_len, range_with_len}
use Rattle.checked_fraction.{specs.Terms.{IsInLowestTerms, num}, specs.declared.row.Row.Row, proofs.Products.{cancelled, positive_product, regroup}}
use Rattle.module_prices.specs.declared.cheapest.UnitPair.{UnitPair}
use Rattle.plan_terms.specs.Terms.{Caps, CutLine, Link, IsModule}
use Rattle.plan_types.specs.declared.quality.Share.{Share}
use Rattle.metric_cut.specs.Bounded.{HaveBound}
use Rattle.simplex_law.{specs.Terms.dot, proofs.Lemmas.{dot-same, dot-times, le_cancel, le_times, moved_out, some_lowest, times_nonneg, weaken}, proofs.Rows.IsMultiple}
use Rattle.master_law.{specs.Terms.{AreUnitPairs, IsLeastShare, cut_entry, cut_gain, share_capacities, share_caps, unit_capacities}, proofs.Capacities.{share_at, share_count}}
use Rattle.master_bound.specs.Answers.{cut_at}
use Rattle.route_law.specs.Terms.{caps_times}
use Rattle.length_master.{specs.declared.slot.Slot.Slot, specs.declared.slot.Slot.TheVariants.{Slack, Cut}, specs.declared.row.KeptRow.KeptRow, specs.WideShares.AreLeastCaps, specs.inner.Capacities.{capacities_over, given_at, given_by}, specs.inner.Slots.{IsSlotInside, slot_entry, slot_gain, slot_lengths}, specs.inner.Tests.{AreBasicValues, AreBestPrices}, proofs.Optimal.{basis, best, factor, many, placed, slot, taken_slot}, proofs.Scaling.taken}

abbrev caps_at : ℕ → List ℕ → Caps
caps_at scale nums = record { scale = scale; nums = nums }

-- over units of the capacity 1 a slot takes its lengths
one_entry : (n : ℕ) (ones : List UnitPair) (cuts : List CutLine) (u : ℕ → ℤ) (slot : Slot) → ((e : ℕ) → e < n → slice_index (unit_capacities ones) e ≡ 1)
    → dot n u (slot_entry ones cuts slot) ≡ dot n u (slot_lengths cuts slot)
one_entry n ones cuts u (Slack e) one = refl
one_entry n ones cuts u (Cut k) one = dot-same n u u (slot_entry ones cuts (Cut k)) (slot_lengths cuts (Cut k)) (λ e l. refl) (λ e l. ap pos (times_one (slice_index (cut_at cuts k).lengths e) (slice_index (unit_capacities ones) e) (one e l)))
  where
    times_one : (a c : ℕ) → c ≡ 1 → a * c ≡ a
    times_one a c same = let h : a * c ≡ a * 1 = ap (λ t. a * t) same in omega (arith, h)

-- units of the capacity 1, as many as there are links
pub ones_are : (n : ℕ) (unit : UnitPair) (ones : List UnitPair) → unit.capacity ≡ 1 → ones ≡ replicate n unit → (e : ℕ) → e < n → slice_index (unit_capacities ones) e ≡ 1
ones_are n unit ones is same e l =
    subst (λ xs. slice_index (unit_capacities xs) e ≡ 1) (sym same)
    (get_or-map (λ (p : UnitPair). p.capacity) (replicate n unit) e unit 0 (subst (λ m. e < m) (sym (length-replicate n unit)) l) ∙ (ap (λ (p : UnitPair). p.capacity) (get_or-replicate n e unit unit l) ∙ is))

-- what a link has at its price, all times, is what its units give, g times
given_times : (all g fixed capacity price den units scale part : ℕ) → all * den ≡ g * scale → price * part ≡ g * units → (0 < capacity → part * capacity ≡ all)
    → all * given_by fixed capacity price den ≡ g * (fixed * scale + capacity * units)
given_times all g fixed zero price den units scale part same_scale same_units same_part =
    let h : fixed * (all * den) ≡ fixed * (g * scale) = ap (λ t. fixed * t) same_scale in omega (arith, h)
given_times all g fixed (suc c) price den units scale part same_scale same_units same_part =
    let one : fixed * (all * den) ≡ fixed * (g * scale) = ap (λ t. fixed * t) same_scale in
    let two : (price * part) * suc c ≡ (g * units) * suc c = ap (λ t. t * suc c) same_units in
    let three : price * (part * suc c) ≡ price * all = ap (λ t. price * t) (same_part (omega arith)) in
    given (all * den) one two three
  where
    given : (x : ℕ) → fixed * (all * den) ≡ fixed * (g * scale) → (price * part) * suc c ≡ (g * units) * suc c → price * (part * suc c) ≡ price * all
        → all * (fixed * den + price) ≡ g * (fixed * scale + suc c * units)
    given x one two three = omega (arith, one, two, three)

module _ (links : List Link) (pairs : List UnitPair) (cuts : List CutLine) (sound : All (λ l. All IsModule l.modules) links) (units : AreUnitPairs links pairs)
    (bound : All (λ (cut : CutLine). HaveBound links cut.lengths) cuts) (rows : List KeptRow) (values : List ℕ) (den : ℕ)
    (basic : AreBasicValues (length links) pairs cuts rows values den) (ones : List UnitPair) (one : (e : ℕ) → e < length links → slice_index (unit_capacities ones) e ≡ 1)
    (duals : Row) (prices : AreBestPrices links ones cuts rows duals) where
  abbrev n : ℕ
  n = length links

  abbrev u : ℕ → ℤ
  u = num duals.nums

  abbrev parts : ℕ → ℕ
  parts = (many links pairs cuts sound units bound).parts

  abbrev all : ℕ
  all = (many links pairs cuts sound units bound).all

  abbrev at : ℕ → Slot
  at = slot links pairs cuts sound units bound rows values den basic

  whole_positive : pos 0 <ℤ (duals.den *ℤ pos all)
  whole_positive = positive_product duals.den (pos all) duals.positive (omega (arith, ints, (many links pairs cuts sound units bound).some))

  -- the units over the scale in lowest terms
  abbrev lowest_share : (nums : ℕ → ℤ) × (over : ℤ) × (g : ℕ) × IsMultiple n (taken u parts) (duals.den *ℤ pos all) nums over (pos g) × (pos 0 <ℤ over) × IsInLowestTerms n nums over × (pos g *ℤ over ≡ duals.den *ℤ pos all)
  lowest_share = some_lowest n (taken u parts) (duals.den *ℤ pos all) whole_positive

  abbrev low_nums : ℕ → ℤ
  low_nums = lowest_share.0

  abbrev over : ℤ
  over = lowest_share.1

  abbrev g : ℕ
  g = lowest_share.2

  abbrev times : IsMultiple n (taken u parts) (duals.den *ℤ pos all) low_nums over (pos g)
  times = lowest_share.3

  raw_dot : (x : ℕ → ℤ) → dot n (taken u parts) x ≡ pos g *ℤ dot n low_nums x
  raw_dot x = dot-same n (taken u parts) (λ k. pos g *ℤ low_nums k) x x times.of_nums (λ k l. refl) ∙ dot-times n (pos g) low_nums x

  -- a slot's product, with the lowest numbers in place of the prices
  low_dot : (s : Slot) → IsSlotInside n (length cuts) s → pos g *ℤ dot n low_nums (slot_entry pairs cuts s) ≡ pos (factor links pairs cuts sound units bound s) *ℤ dot n u (slot_entry ones cuts s)
  low_dot s inside =
      sym (raw_dot (slot_entry pairs cuts s))
      ∙ (taken_slot links pairs cuts sound units bound u s inside
      ∙ ap (λ t. pos (factor links pairs cuts sound units bound s) *ℤ t) (sym (one_entry n ones cuts u s one)))

  even_one : (j : ℕ) → j < n → dot n u (slot_entry ones cuts (at j)) ≡ duals.den *ℤ slot_gain links cuts (at j)
  even_one j l =
      subst (λ m. dot m u (slot_entry ones cuts (at j)) ≡ duals.den *ℤ slot_gain links cuts (at j)) prices.count
      (prices.even j (subst (λ m. j < m) (sym basic.rows_count) l))

  regrouped : (d a x : ℤ) → a *ℤ (d *ℤ x) ≡ (d *ℤ a) *ℤ x
  regrouped d a x = moved_out a d x ∙ sym (regroup d a x)

  -- a slack gains nothing, and a cut is taken as often as all
  gain_times : (s : Slot) → pos (factor links pairs cuts sound units bound s) *ℤ (duals.den *ℤ slot_gain links cuts s) ≡ pos g *ℤ (over *ℤ slot_gain links cuts s)
  gain_times (Slack e) =
      ap (λ t. pos (parts e) *ℤ t) (*ℤ-zero duals.den) ∙ (*ℤ-zero (pos (parts e)) ∙ sym (ap (λ t. pos g *ℤ t) (*ℤ-zero over) ∙ *ℤ-zero (pos g)))
  gain_times (Cut k) = regrouped duals.den (pos all) (cut_gain links (cut_at cuts k)) ∙ (ap (λ t. t *ℤ cut_gain links (cut_at cuts k)) times.of_den ∙ regroup (pos g) over (cut_gain links (cut_at cuts k)))

  low_even : (j : ℕ) → j < n → dot n low_nums (slot_entry pairs cuts (at j)) ≡ over *ℤ slot_gain links cuts (at j)
  low_even j l =
      cancelled (pos g) _ _ times.positive
      (low_dot (at j) (placed links pairs cuts sound units bound rows values den basic j l).inside
      ∙ (ap (λ t. pos (factor links pairs cuts sound units bound (at j)) *ℤ t) (even_one j l) ∙ gain_times (at j)))

  none_one : (k : ℕ) → k < length cuts → (duals.den *ℤ cut_gain links (cut_at cuts k)) ≤ℤ dot n u (cut_entry ones (cut_at cuts k))
  none_one k l = subst (λ m. (duals.den *ℤ cut_gain links (cut_at cuts k)) ≤ℤ dot m u (cut_entry ones (cut_at cuts k))) prices.count (prices.none k l)

  low_priced : (k : ℕ) → k < length cuts → (over *ℤ cut_gain links (cut_at cuts k)) ≤ℤ dot n low_nums (cut_entry pairs (cut_at cuts k))
  low_priced k l =
      le_cancel (pos g) _ _ times.positive
      (subst (λ t. (pos g *ℤ (over *ℤ cut_gain links (cut_at cuts k))) ≤ℤ t) (sym (low_dot (Cut k) l))
      (subst (λ t. t ≤ℤ (pos all *ℤ dot n u (cut_entry ones (cut_at cuts k)))) (gain_times (Cut k))
      (le_times (pos all) _ _ (omega (arith, ints)) (none_one k l))))

  low_high : (e : ℕ) → e < n → pos 0 ≤ℤ low_nums e
  low_high e l =
      le_cancel (pos g) (pos 0) (low_nums e) times.positive
      (subst (λ t. t ≤ℤ (pos g *ℤ low_nums e)) (sym (*ℤ-zero (pos g)))
      (subst (λ t. pos 0 ≤ℤ t) (times.of_nums e l) (times_nonneg (u e) (pos (parts e)) (prices.positive e (subst (λ m. e < m) (sym prices.count) l)) (omega (arith, ints)))))

  -- ---- the share

  abbrev unit_of : ℕ → ℕ
  unit_of e = unsigned_abs (low_nums e)

  abbrev share : Share
  share = record { units = map unit_of (range_with_len 0 n); scale = unsigned_abs over }

  unit_at : (e : ℕ) → e < n → slice_index share.units e ≡ unit_of e
  unit_at e l = get_or-map-range_with_len unit_of 0 n e e 0 l (omega arith)

  size : (x : ℤ) → pos 0 ≤ℤ x → x ≡ pos (unsigned_abs x)
  size x h = omega (arith, ints, h)

  least : IsLeastShare links pairs cuts share
  least = record {
    basis = basis links pairs cuts sound units bound rows values den basic;
    duals = low_nums;
    den = over;
    best = best links pairs cuts sound units bound rows values den basic low_nums over lowest_share.4 low_high low_even low_priced;
    scale = size over (weaken over lowest_share.4);
    count = length-map-range_with_len unit_of 0 n;
    units = λ e l. size (low_nums e) (low_high e l) ∙ ap pos (sym (unit_at e l));
    lowest = λ d in_scale in_units. lowest_share.5 d in_scale (λ k l. subst (λ x. d ∣ x) (unit_at k l) (All-get_or (λ x. d ∣ x) share.units k 0 (subst (λ m. k < m) (sym (length-map-range_with_len unit_of 0 n)) l) in_units));
  }

  -- ---- its capacities

  same_scale : all * unsigned_abs duals.den ≡ g * unsigned_abs over
  same_scale = sizes all g duals.den over times.of_den
    where
      sizes : (a b : ℕ) (x y : ℤ) → x *ℤ pos a ≡ pos b *ℤ y → a * unsigned_abs x ≡ b * unsigned_abs y
      sizes a b x y same = let h : unsigned_abs x * a ≡ b * unsigned_abs y = sym (unsigned_abs-mul x (pos a)) ∙ (ap unsigned_abs same ∙ unsigned_abs-mul (pos b) y) in omega (arith, h)

  same_units : (e : ℕ) → e < n → unsigned_abs (u e) * parts e ≡ g * unit_of e
  same_units e l = sym (unsigned_abs-mul (u e) (pos (parts e))) ∙ (ap unsigned_abs (times.of_nums e l) ∙ unsigned_abs-mul (pos g) (low_nums e))

  same_capacity : (e : ℕ) → e < n → all * given_at links pairs duals e ≡ g * slice_index (share_capacities links pairs share) e
  same_capacity e l =
      given_times all g (slice_index (map (λ l. l.fixed) links) e) (slice_index (unit_capacities pairs) e) (unsigned_abs (u e)) (unsigned_abs duals.den) (unit_of e) (unsigned_abs over) (parts e)
      same_scale (same_units e l) ((many links pairs cuts sound units bound).each e l)
      ∙ ap (λ t. g * t) (ap (λ t. slice_index (map (λ l. l.fixed) links) e * unsigned_abs over + slice_index (unit_capacities pairs) e * t) (sym (unit_at e l))
      ∙ sym (share_at (unsigned_abs over) links pairs share.units e units.count (length-map-range_with_len unit_of 0 n)))

  same_nums : map (λ x. all * x) (capacities_over links pairs duals).nums ≡ map (λ x. g * x) (share_capacities links pairs share)
  same_nums = same_number_lists _ _ (left_count ∙ sym right_count) (λ k l.
      let inside : k < n = subst (λ m. k < m) left_count l in
      get_or-map (λ x. all * x) (capacities_over links pairs duals).nums k 0 0 (subst (λ m. k < m) (sym (length-map-range_with_len (given_at links pairs duals) 0 n)) inside)
      ∙ (ap (λ x. all * x) (get_or-map-range_with_len (given_at links pairs duals) 0 n k k 0 inside (omega arith))
      ∙ (same_capacity k inside
      ∙ sym (get_or-map (λ x. g * x) (share_capacities links pairs share) k 0 0 (subst (λ m. k < m) (sym whole_count) inside)))))
    where
      whole_count : length (share_capacities links pairs share) ≡ n
      whole_count = share_count links pairs share units.count (length-map-range_with_len unit_of 0 n)

      left_count : length (map (λ x. all * x) (capacities_over links pairs duals).nums) ≡ n
      left_count = length-map (capacities_over links pairs duals).nums (λ x. all * x) ∙ length-map-range_with_len (given_at links pairs duals) 0 n

      right_count : length (map (λ x. g * x) (share_capacities links pairs share)) ≡ n
      right_count = length-map (share_capacities links pairs share) (λ x. g * x) ∙ whole_count

  pub least_caps : AreLeastCaps links cuts (capacities_over links pairs duals)
  least_caps = record {
    pairs = pairs;
    units = units;
    share = share;
    least = least;
    factor = all;
    of_share = g;
    positive = ((many links pairs cuts sound units bound).some, some_g times.positive);
    same = same_caps;
  }
    where
      some_g : pos 0 <ℤ pos g → 0 < g
      some_g h = omega (arith, ints, h)

      same_caps : caps_times all (capacities_over links pairs duals) ≡ caps_times g (share_caps links pairs share)
      same_caps = both _ _ _ _ same_scale same_nums
        where
          both : (a b : ℕ) (xs ys : List ℕ) → a ≡ b → xs ≡ ys → caps_at a xs ≡ caps_at b ys
          both a b xs ys s t = subst (λ c. caps_at a xs ≡ caps_at c ys) s (ap (caps_at a) t)
