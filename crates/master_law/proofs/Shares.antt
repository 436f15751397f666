-- a least share violates none of its cuts, and the objective row of an optimum is a least share
use Rattle.std.proofs.Common.{◌≡◌, ℕ, ◌+◌, ◌*◌, ◌<◌, List, [], ◌∷◌, Contains, length, map, sum_by, zip, slice_index, refl, sym, ap, ◌∙◌, arith, subst, inl, unsigned_abs, ℤ, pos, ◌*ℤ◌, ◌<ℤ◌}
use Rattle.net_core.proofs.Library.{◌∣◌, All-get_or, sum_by-cons, pos-*ℤ-pos, ints, below-first}
use Rattle.module_prices.specs.declared.cheapest.UnitPair.{UnitPair}
use Rattle.plan_terms.specs.Terms.{MasterColumn, Link, CutLine, sum_below, fixed_along, Violates}
use Rattle.plan_types.specs.declared.quality.Share.{Share}
use Rattle.route_law.proofs.Lemmas.{sum-pos}
use Rattle.simplex_law.{specs.Terms.{dot, ColumnOf, IsOptimum}, proofs.Lemmas.{minus_left, sum-same}}
use Rattle.master_law.{specs.LeastShares.IsLeastShare, specs.MasterPrograms.{master_bound, cut_gain, cut_entry, unit_capacities, IsMasterColumn}, specs.UnitPairs.share_caps, proofs.Columns.{column_of, is_column_of}}

abbrev capacity_of : ℕ → Link × (UnitPair × ℕ) → ℕ
capacity_of scale p = p.0.fixed * scale + p.1.0.capacity * p.1.1

-- the capacities of a share along lengths
pub along_share : (scale : ℕ) (links : List Link) (pairs : List UnitPair) (units lengths : List ℕ) → length pairs ≡ length links → length units ≡ length links → length lengths ≡ length links
    → sum_by (λ p. p.0 * p.1) (zip lengths (map (λ p. p.0.fixed * scale + p.1.0.capacity * p.1.1) (zip links (zip pairs units))))
    ≡ scale * fixed_along lengths links + sum_below (length links) (λ e. slice_index units e * (slice_index lengths e * slice_index (unit_capacities pairs) e))
along_share scale [] pairs units [] cp cu cl = omega arith
along_share scale [] pairs units (n ∷ ns) cp cu cl = absurd (omega (arith, cl))
along_share scale (l ∷ ls) [] units lengths cp cu cl = absurd (omega (arith, cp))
along_share scale (l ∷ ls) (p ∷ ps) [] lengths cp cu cl = absurd (omega (arith, cu))
along_share scale (l ∷ ls) (p ∷ ps) (u ∷ us) [] cp cu cl = absurd (omega (arith, cl))
along_share scale (l ∷ ls) (p ∷ ps) (u ∷ us) (n ∷ ns) cp cu cl =
    omega (
      arith,
      sum_by-cons (λ (q : ℕ × ℕ). q.0 * q.1) (n, l.fixed * scale + p.capacity * u) (zip ns (map (capacity_of scale) (zip ls (zip ps us)))),
      ap (λ s. scale * s) (sum_by-cons (λ (q : ℕ × Link). q.0 * q.1.fixed) (n, l) (zip ns ls)),
      below-first (length ls) (λ e. slice_index (u ∷ us) e * (slice_index (n ∷ ns) e * slice_index (unit_capacities (p ∷ ps)) e)),
      along_share scale ls ps us ns (omega (arith, cp)) (omega (arith, cu)) (omega (arith, cl)),
    )

-- a least share violates none of its cuts
pub least_violates_none : (links : List Link) (pairs : List UnitPair) (cuts : List CutLine) (share : Share) (cut : CutLine) → length pairs ≡ length links → length cut.lengths ≡ length links
    → IsLeastShare links pairs cuts share → Contains cuts cut → Violates (share_caps links pairs share) cut → ⊥
least_violates_none links pairs cuts share cut count_pairs count least held violated =
    least.best.none (column_of links pairs cut) (inl (is_column_of links pairs cuts cut held))
    (subst (λ x. x <ℤ (least.den *ℤ cut_gain links cut)) (sym priced)
    (subst (λ x. pos taken <ℤ (x *ℤ cut_gain links cut)) (sym least.scale) below))
  where
    taken : ℕ
    taken = sum_below (length links) (λ e. slice_index share.units e * (slice_index cut.lengths e * slice_index (unit_capacities pairs) e))

    priced : dot (length links) least.duals (cut_entry pairs cut) ≡ pos taken
    priced =
        sum-same (length links) _ (λ e. pos (slice_index share.units e * (slice_index cut.lengths e * slice_index (unit_capacities pairs) e)))
        (λ e l. ap (λ x. x *ℤ cut_entry pairs cut e) (least.units e l) ∙ pos-*ℤ-pos (slice_index share.units e) (slice_index cut.lengths e * slice_index (unit_capacities pairs) e))
        ∙ sum-pos (length links) (λ e. slice_index share.units e * (slice_index cut.lengths e * slice_index (unit_capacities pairs) e))

    less : share.scale * fixed_along cut.lengths links + taken < cut.right * share.scale
    less = omega (arith, violated, along_share share.scale links pairs share.units cut.lengths count_pairs least.count count)

    below : pos taken <ℤ (pos share.scale *ℤ cut_gain links cut)
    below = omega (arith, ints, minus_left (pos cut.right) (pos (fixed_along cut.lengths links)) (pos share.scale), less)

-- the objective row of an optimum is a least share
pub least_share : (links : List Link) (pairs : List UnitPair) (cuts : List CutLine) (basis : ℕ → ColumnOf MasterColumn) (values : ℕ → ℤ) (den : ℤ) (duals : ℕ → ℤ) (share : Share) → length share.units ≡ length links
    → IsOptimum (length links) (master_bound pairs) (IsMasterColumn links pairs cuts) basis values den duals (pos share.scale) → ((e : ℕ) → e < length links → duals e ≡ pos (slice_index share.units e))
    → IsLeastShare links pairs cuts share
least_share links pairs cuts basis values den duals share count o units = record {
  basis = basis;
  duals = duals;
  den = pos share.scale;
  best = o.best;
  scale = refl;
  count = count;
  units = units;
  lowest = λ d of_scale of_units. o.lowest d of_scale (λ e l. subst (λ x. d ∣ unsigned_abs x) (sym (units e l)) (All-get_or (λ u. d ∣ u) share.units e 0 (subst (λ n. e < n) (sym count) l) of_units));
}
