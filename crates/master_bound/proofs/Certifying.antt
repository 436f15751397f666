-- the certificate of an optimum, and the share of its objective row
use Rattle.std.{proofs.Common.{◌≡◌, ◌≢◌, ℕ, zero, suc, ◌-◌, ◌*◌, ◌/◌, ◌^◌, ◌<◌, ◌≤◌, List, [], ◌∷◌, All, AllPairs, Contains, Some, get_or, length, map, mul-pos, refl, slice_get, slice_index, sym, ap, ◌∙◌, subst, ⊎_elim, arith, mul-le-mul_left, pos, ◌<ℤ◌}, proofs.lemmas.Nat.Gcd.le_of_dvd}
use Rattle.net_core.proofs.Library.{◌∣◌, cases_eq, ints, All-contains, All-get_or, All-map, All-nil, All-weaker, dvd-zero, le_of_mul-le-mul_left, positive_divisor}
use Rattle.checked_fraction.specs.Terms.{num}
use Rattle.module_prices.specs.declared.cheapest.UnitPair.{UnitPair}
use Rattle.plan_terms.{specs.Terms.{MasterColumn, Link, CutLine, IsModule, IsBound, IsGreatestDivisor, IsLowest, CertificateLine, IsCut, asked, fixed_along, given, price, raw_value, IsOwnBound}, proofs.Lemmas.lowest_positive}
use Rattle.plan_types.specs.declared.quality.Share.{Share}
use Rattle.simplex_law.specs.Terms.{IsPacking, AreNames, IsOptimum}
use Rattle.simplex_core.specs.declared.optimum.Optimum.{Optimum}
use Rattle.master_law.{specs.Terms.{AreLinesOf, IsLeastShare, IsSameCut, master_bound, IsMasterColumn, AreUnitPairs, share_cost}, proofs.Certified.{modules_priced, raw_is_cost, raw_is_gained}, proofs.Lines.{asked_times, given_times, line_times, priced_lowest, raw_times}, proofs.Own.{bound_rises, own_raw}, proofs.Shares.least_share}
use Rattle.master_bound.{specs.Optima.IsMasterOptimum, specs.Answers.{AreMultipliers, IsBestOf, cut_at, lines_of}, specs.declared.answer.Multiplier.Multiplier, specs.inner.Lines.{AreAmounts, AreBasisMultipliers, IsMultiplierOf}, specs.inner.Shares.IsShareOfDuals, proofs.Lowest.{common_some, in_lowest, part_some, whole_den}, proofs.Optima.{all_named, gains_as_cut, lines_whole, some_lines}}

cancel : (k a b : ℕ) → 0 < k → k * a ≡ k * b → a ≡ b
cancel k a b some e =
    let one : a ≤ b = le_of_mul-le-mul_left (let h : k * a ≤ k * b = omega (arith, e) in h) some in
    let two : b ≤ a = le_of_mul-le-mul_left (let h : k * b ≤ k * a = omega (arith, e) in h) some in
    omega (arith, one, two)

-- fractions that are below one that equals others
below_equal : (x den r sd scale cost rd rn : ℕ) → 0 < den → 0 < scale → x * den ≤ r * sd → r * scale ≡ cost * den → cost * rd ≡ rn * scale → x * rd ≤ rn * sd
below_equal x den r sd scale cost rd rn some_den some_scale le same low =
    let a : (scale * rd) * (x * den) ≤ (scale * rd) * (r * sd) = mul-le-mul_left (scale * rd) le in
    let all : (den * scale) * (x * rd) ≤ (den * scale) * (rn * sd) = omega (
      arith,
      a,
      first scale rd x den,
      second scale rd r sd,
      ap (λ y. (sd * rd) * y) same,
      third sd rd cost den,
      ap (λ y. (sd * den) * y) low,
      fourth sd den rn scale,
    ) in
    le_of_mul-le-mul_left all (mul-pos some_den some_scale)
  where
    first : (a b c d : ℕ) → (a * b) * (c * d) ≡ (d * a) * (c * b)
    first a b c d = omega arith

    second : (a b c d : ℕ) → (a * b) * (c * d) ≡ (d * b) * (c * a)
    second a b c d = omega arith

    third : (a b c d : ℕ) → (a * b) * (c * d) ≡ (a * d) * (c * b)
    third a b c d = omega arith

    fourth : (a b c d : ℕ) → (a * b) * (c * d) ≡ (b * d) * (c * a)
    fourth a b c d = omega arith

-- a raw value over a part of the denominator
equal_part : (r common part den scale cost rd rn : ℕ) → 0 < common → 0 < scale → common * part ≡ den → (common * r) * scale ≡ cost * den → cost * rd ≡ rn * scale → r * rd ≡ rn * part
equal_part r common part den scale cost rd rn some_common some_scale whole same low =
    let one : (common * scale) * (r * rd) ≡ (common * scale) * (rn * part) =
    first common scale r rd ∙ (ap (λ y. y * rd) same ∙ (ap (λ y. (cost * y) * rd) (sym whole) ∙ (second cost common part rd ∙ (ap (λ y. y * (common * part)) low ∙ third rn scale common part)))) in
    cancel (common * scale) (r * rd) (rn * part) (mul-pos some_common some_scale) one
  where
    first : (a b c d : ℕ) → (a * b) * (c * d) ≡ ((a * c) * b) * d
    first a b c d = omega arith

    second : (a b c d : ℕ) → (a * (b * c)) * d ≡ (a * d) * (b * c)
    second a b c d = omega arith

    third : (a b c d : ℕ) → (a * b) * (c * d) ≡ (c * b) * (a * d)
    third a b c d = omega arith

pub some_den : (n : ℕ) → pos 0 <ℤ pos n → 0 < n
some_den n h = omega (arith, ints, h)

-- only 1 divides 1
one_divides : (d : ℕ) → d ∣ 1 → d ≡ 1
one_divides d h =
    let low : d ≤ 1 = le_of_dvd (let one : 0 < 1 = omega arith in one) h in
    let high : 0 < d = positive_divisor d 1 (omega arith) h in
    omega (arith, low, high)

module _ (links : List Link) (pairs : List UnitPair) (cuts : List CutLine) (sound : All (λ l. All IsModule l.modules) links) (units : AreUnitPairs links pairs) (best : Optimum MasterColumn) (solution : IsMasterOptimum links pairs cuts best)
    (share : Share) (is : IsShareOfDuals best.duals share) (raw_num raw_den : ℕ) (low : IsLowest (share_cost pairs share) share.scale raw_num raw_den) where
  abbrev values : ℕ → ℕ
  values j = get_or best.values j 0

  scale_some : 0 < share.scale
  scale_some = some_den share.scale (subst (λ x. pos 0 <ℤ x) is.scale best.duals.positive)

  count : length share.units ≡ length links
  count = is.units.count ∙ solution.prices

  units_are : (e : ℕ) → e < length links → num best.duals.nums e ≡ pos (slice_index share.units e)
  units_are e l = is.units.same e (subst (λ n. e < n) (sym solution.prices) l)

  optimal : IsOptimum (length links) (master_bound pairs) (IsMasterColumn links pairs cuts) solution.basis (λ j. pos (values j)) (pos best.den) (num best.duals.nums) (pos share.scale)
  optimal = subst (IsOptimum (length links) (master_bound pairs) (IsMasterColumn links pairs cuts) solution.basis (λ j. pos (values j)) (pos best.den) (num best.duals.nums)) is.scale solution.optimum

  is_least : IsLeastShare links pairs cuts share
  is_least = least_share links pairs cuts solution.basis (λ j. pos (values j)) (pos best.den) (num best.duals.nums) share count optimal units_are

  raw_of : (lines : List CertificateLine) → AreLinesOf links (length links) solution.basis values lines → (given links lines ≤ asked lines) × (raw_value links lines * share.scale ≡ share_cost pairs share * best.den)
  raw_of lines of = raw_is_cost links pairs cuts solution.basis values best.den (num best.duals.nums) (pos share.scale) optimal lines of share units.count refl units_are

  -- the bound is at least that of each cut alone
  own_at_most : (cut : CutLine) (own bound : ℕ) → Contains cuts cut → IsOwnBound links cut.lengths cut.right own → IsBound links raw_num raw_den bound → own ≤ bound
  own_at_most cut own bound held small round =
      let some = some_lines links pairs cuts best solution (length links) (let le : length links ≤ length links = omega arith in le) in
      let raw = raw_value links some.0 in
      let gained = raw_is_gained links pairs cuts solution.basis values best.den (num best.duals.nums) (pos share.scale) optimal some.0 some.1 in
      let below = own_raw links pairs cuts sound units cut held small.num small.den small.multiplier.valid solution.basis (λ j. pos (values j)) best.den (num best.duals.nums) (pos share.scale) raw optimal gained.1 in
      let less = below_equal (small.num * (cut.right - fixed_along cut.lengths links)) best.den raw small.den share.scale (share_cost pairs share) raw_den raw_num (some_den best.den solution.optimum.positive) scale_some below (raw_of some.0 some.1).1 low.same in
      bound_rises links (small.num * (cut.right - fixed_along cut.lengths links)) small.den raw_num raw_den bound own (lowest_positive (share_cost pairs share) share.scale raw_num raw_den scale_some low) less round small.rounded

  -- where the share costs nothing, no multipliers certify it
  pub best_of_none : raw_num ≡ 0 → IsBestOf links cuts (record { den = 1; multipliers = []; share = share; raw_num = raw_num; raw_den = raw_den })
  best_of_none none = record {
    multipliers = record { few = omega arith; listed = All-nil (λ m. m.cut < length cuts); positive = All-nil (λ m. 0 < m.num); different = λ i j d lt l. absurd (omega (arith, l)) };
    certificate = λ p same all. record {
      positive = omega arith;
      den_limit = omega arith;
      nums = All-nil (λ l. l.num < 2 ^ 62);
      asked_limit = omega arith;
      given_limit = omega arith;
      each = All-nil (λ l. IsCut p l.cut);
      priced = λ e l at k m lt. omega arith;
    };
    lowest = λ d of_den of_nums. one_divides d of_den;
    raw = record { same = omega (arith, none); lowest = low.lowest };
    empty = λ z. refl;
    pairs = pairs;
    units = units;
    least = is_least;
    cost = low.same;
    scale_limit = is.scale_low;
    units_limit = is.units.low;
    above = own_at_most;
  }

  module _ (amounts : List ℕ) (are : AreAmounts best.basis best.values (length best.basis) amounts) (common : ℕ) (divisor : IsGreatestDivisor (best.den ∷ amounts) common) (multipliers : List Multiplier)
      (of : AreBasisMultipliers cuts best.basis amounts common (length best.basis) multipliers) (different : AllPairs (λ a b. IsSameCut a b → ⊥) cuts) where
    den_some : 0 < best.den
    den_some = some_den best.den solution.optimum.positive

    abbrev part : ℕ
    part = best.den / common

    -- the lines of the multipliers are those of the amounts over the divisor
    pub few_lines : AreLinesOf links (length links) solution.basis (λ j. get_or amounts j 0 / common) (lines_of cuts multipliers)
    few_lines =
        let names : AreNames (length best.basis) solution.basis best.basis = subst (λ n. AreNames n solution.basis best.basis) (sym solution.names.count) solution.names in
        subst (λ n. AreLinesOf links n solution.basis (λ j. get_or amounts j 0 / common) (lines_of cuts multipliers)) solution.names.count (of.sums links solution.basis names (gains_as_cut links pairs cuts best solution different))

    whole_lines : AreLinesOf links (length links) solution.basis values (map (line_times common) (lines_of cuts multipliers))
    whole_lines = lines_whole links pairs cuts best solution amounts are common den_some divisor (lines_of cuts multipliers) few_lines

    -- numerators are narrow where the amounts over the divisor are
    pub narrow_nums : All (λ a. a / common < 2 ^ 62) amounts → All (λ m. m.num < 2 ^ 62) multipliers
    narrow_nums narrow = All-weaker (IsMultiplierOf cuts best.basis amounts common (length best.basis)) (λ m. m.num < 2 ^ 62)
        (λ m h. subst (λ x. x < 2 ^ 62) (sym h.num) (All-get_or (λ a. a / common < 2 ^ 62) amounts h.column 0 (subst (λ n. h.column < n) (sym are.count) h.before) narrow)) multipliers of.each

    module _ (packing : IsPacking (length links) (master_bound pairs) (IsMasterColumn links pairs cuts)) (narrow : All (λ a. a / common < 2 ^ 62) amounts) (asked_low : asked (lines_of cuts multipliers) < 2 ^ 126)
        (few_links : length links ≤ 256) (some : 0 < raw_num) where
      are_multipliers : AreMultipliers cuts multipliers
      are_multipliers = record {
        few = omega (arith, of.few, solution.names.count, few_links);
        listed = All-weaker (IsMultiplierOf cuts best.basis amounts common (length best.basis)) (λ m. m.cut < length cuts) (λ m h. h.place.inside) multipliers of.each;
        positive = All-weaker (IsMultiplierOf cuts best.basis amounts common (length best.basis)) (λ m. 0 < m.num) (λ m h. h.positive) multipliers of.each;
        different = of.different (all_named links pairs cuts best solution packing);
      }

      lines_priced : (e : ℕ) (l : Link) → slice_get links e ≡ Some l → All (λ m. price (lines_of cuts multipliers) e * m.capacity ≤ part * m.cost) l.modules
      lines_priced = priced_lowest links common part (lines_of cuts multipliers) (common_some best.den amounts common den_some divisor)
          (λ e l at. subst (λ d. All (λ m. price (map (line_times common) (lines_of cuts multipliers)) e * m.capacity ≤ d * m.cost) l.modules) (sym (whole_den best.den amounts common den_some divisor))
          (modules_priced links pairs cuts solution.basis values best.den (num best.duals.nums) best.duals.den solution.optimum (map (line_times common) (lines_of cuts multipliers)) whole_lines sound units e l at))

      raw_same : raw_value links (lines_of cuts multipliers) * raw_den ≡ raw_num * part
      raw_same =
          equal_part (raw_value links (lines_of cuts multipliers)) common part best.den share.scale (share_cost pairs share) raw_den raw_num (common_some best.den amounts common den_some divisor) scale_some
          (whole_den best.den amounts common den_some divisor)
          (ap (λ x. x * share.scale) (sym (raw_times links common (lines_of cuts multipliers))) ∙ (raw_of (map (line_times common) (lines_of cuts multipliers)) whole_lines).1)
          low.same

      given_low : given links (lines_of cuts multipliers) ≤ asked (lines_of cuts multipliers)
      given_low =
          let both = (raw_of (map (line_times common) (lines_of cuts multipliers)) whole_lines).0 in
          le_of_mul-le-mul_left (let h : common * given links (lines_of cuts multipliers) ≤ common * asked (lines_of cuts multipliers) = omega (arith, both, given_times links common (lines_of cuts multipliers), asked_times common (lines_of cuts multipliers)) in h)
          (common_some best.den amounts common den_some divisor)

      in_terms : (d : ℕ) → d ∣ part → All (λ m. d ∣ m.num) multipliers → d ≡ 1
      in_terms d of_part of_nums = in_lowest best.den amounts common den_some divisor d of_part (λ j lt. ⊎_elim
          (λ z. subst (λ x. d ∣ x) (sym z) (dvd-zero d))
          (λ more. All-contains (λ x. d ∣ x) (map (λ m. m.num) multipliers) (get_or amounts j 0 / common) (All-map (λ x. d ∣ x) (λ (m : Multiplier). m.num) multipliers of_nums)
          (of.whole j (subst (λ n. j < n) are.count lt) (not_zero (get_or amounts j 0 / common) more)))
          (cases_eq (get_or amounts j 0 / common) 0))
        where
          not_zero : (n : ℕ) → n ≢ 0 → 0 < n
          not_zero zero h = absurd (h refl)
          not_zero (suc n) h = omega arith

      -- the certificate of the multipliers
      pub best_of_lines : IsBestOf links cuts (record { den = part; multipliers = multipliers; share = share; raw_num = raw_num; raw_den = raw_den })
      best_of_lines = record {
        multipliers = are_multipliers;
        certificate = λ p same all. record {
          positive = part_some best.den amounts common den_some divisor;
          den_limit = part_low;
          nums = All-map (λ l. l.num < 2 ^ 62) (λ (m : Multiplier). record { cut = cut_at cuts m.cut; num = m.num }) multipliers (narrow_nums narrow);
          asked_limit = asked_low;
          given_limit = subst (λ ls. given ls (lines_of cuts multipliers) < 2 ^ 126) (sym same) (omega (arith, given_low, asked_low));
          each = All-map (λ l. IsCut p l.cut) (λ (m : Multiplier). record { cut = cut_at cuts m.cut; num = m.num }) multipliers
              (All-weaker (λ (m : Multiplier). m.cut < length cuts) (λ (m : Multiplier). IsCut p (cut_at cuts m.cut)) (λ m h. All-get_or (IsCut p) cuts m.cut none h all) multipliers are_multipliers.listed);
          priced = λ e l at. lines_priced e l (subst (λ ls. slice_get ls e ≡ Some l) same at);
        };
        lowest = in_terms;
        raw = record { same = raw_same; lowest = low.lowest };
        empty = λ z. absurd (omega (arith, z, some));
        pairs = pairs;
        units = units;
        least = is_least;
        cost = low.same;
        scale_limit = is.scale_low;
        units_limit = is.units.low;
        above = own_at_most;
      }
        where
          none : CutLine
          none = record { state = record { 0 = 0 }; lengths = []; right = 0 }

          part_low : part < 2 ^ 72
          part_low = let m : part * 1 ≤ part * common = mul-le-mul_left part (common_some best.den amounts common den_some divisor) in omega (arith, solution.narrow, whole_den best.den amounts common den_some divisor, m)
