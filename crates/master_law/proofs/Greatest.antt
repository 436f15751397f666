-- no certificate over the cuts of a list has a raw value above what a least share of them costs
use Rattle.std.proofs.Common.{◌≡◌, ℕ, ◌+◌, ◌-◌, ◌*◌, ◌≤◌, List, [], ◌∷◌, All, Contains, length, sum_by, get_or, slice_index, sym, ap, ◌∙◌, arith, ⊎_elim, mul-le-mul_left}
use Rattle.net_core.proofs.Library.{cases_lt, sum_by-cons, recursion_from_All, mul-sub, AllByRecursion, below-same, below-le, below-times}
use Rattle.module_prices.specs.declared.cheapest.UnitPair.{UnitPair}
use Rattle.plan_terms.{specs.Terms.{Link, CutLine, Case, IsModule, sum_below, CertificateLine, IsCertificate, price, asked, fixed_along, given, raw_value, Violates}, proofs.Lemmas.priced_sum}
use Rattle.plan_types.specs.declared.quality.Share.{Share}
use Rattle.master_law.{specs.LeastShares.IsLeastShare, specs.MasterPrograms.{unit_capacities, unit_costs}, specs.UnitPairs.{AreUnitPairs, share_caps, share_cost}, proofs.Certified.cost_sum, proofs.Columns.unit_at_most, proofs.Shares.{along_share, least_violates_none}}

module _ (links : List Link) (pairs : List UnitPair) (share : Share) where
  -- what the units give along a cut
  abbrev taken : CutLine → ℕ
  taken cut = sum_below (length links) (λ e. slice_index cut.lengths e * (slice_index share.units e * slice_index (unit_capacities pairs) e))

  -- the share meets the cut
  abbrev Meets : CutLine → Type 0
  Meets cut = cut.right * share.scale ≤ share.scale * fixed_along cut.lengths links + taken cut

  all_meet : (lines : List CertificateLine) → AllByRecursion (λ l. Meets l.cut) lines → asked lines * share.scale ≤ share.scale * given links lines + sum_by (λ l. l.num * taken l.cut) lines
  all_meet [] each = omega arith
  all_meet (l ∷ ls) each =
      let one : l.num * (l.cut.right * share.scale) ≤ l.num * (share.scale * fixed_along l.cut.lengths links + taken l.cut) = mul-le-mul_left l.num each.0 in
      omega (
        arith,
        one,
        all_meet ls each.1,
        ap (λ s. s * share.scale) (sum_by-cons (λ (k : CertificateLine). k.num * k.cut.right) l ls),
        ap (λ s. share.scale * s) (sum_by-cons (λ (k : CertificateLine). k.num * fixed_along k.cut.lengths links) l ls),
        sum_by-cons (λ (k : CertificateLine). k.num * taken k.cut) l ls,
      )

  meets : (cut : CutLine) → length pairs ≡ length links → length share.units ≡ length links → length cut.lengths ≡ length links → (Violates (share_caps links pairs share) cut → ⊥) → Meets cut
  meets cut count_pairs count_units count unviolated = ⊎_elim
      (λ less. absurd (unviolated (omega (arith, less, along_share share.scale links pairs share.units cut.lengths count_pairs count_units count, order))))
      (λ more. omega (arith, more))
      (cases_lt (share.scale * fixed_along cut.lengths links + taken cut) (cut.right * share.scale))
    where
      order : sum_below (length links) (λ e. slice_index share.units e * (slice_index cut.lengths e * slice_index (unit_capacities pairs) e)) ≡ taken cut
      order = below-same (length links) _ _ (λ e l. omega arith)

-- no certificate of cuts that a share doesn't violate has a raw value above what the share costs
pub unviolated_raw : (p : Case) (pairs : List UnitPair) (share : Share) (den : ℕ) (lines : List CertificateLine) → All (λ l. All IsModule l.modules) p.links → AreUnitPairs p.links pairs → length share.units ≡ length p.links
    → IsCertificate p den lines → All (λ l. Violates (share_caps p.links pairs share) l.cut → ⊥) lines → raw_value p.links lines * share.scale ≤ share_cost pairs share * den
unviolated_raw p pairs share den lines sound units count is unviolated =
    let n = length p.links in
    let capacity : ℕ → ℕ = λ e. slice_index (unit_capacities pairs) e in
    let cost : ℕ → ℕ = λ e. slice_index (unit_costs pairs) e in
    let unit : ℕ → ℕ = λ e. slice_index share.units e in
    let met = all_meet p.links pairs share lines (recursion_from_All (λ l. Meets p.links pairs share l.cut) lines (λ k d lt. meets p.links pairs share (get_or lines k d).cut units.count count (is.each k d lt).kept.count (unviolated k d lt))) in
    let sums = priced_sum n (λ e. unit e * capacity e) lines in
    let low = below-le n (λ e. price lines e * (unit e * capacity e)) (λ e. den * (unit e * cost e)) (λ e l. times (price lines e) (capacity e) den (cost e) (unit e) (unit_at_most p.links pairs sound units (price lines) den is.priced e l)) in
    let paid : sum_below n (λ e. den * (unit e * cost e)) ≡ den * share_cost pairs share = below-times n den (λ e. unit e * cost e) ∙ ap (λ s. den * s) (ap (λ m. sum_below m (λ e. unit e * cost e)) (sym units.count) ∙ sym (cost_sum pairs share.units)) in
    omega (arith, minus (asked lines) (given p.links lines) (den * share_cost pairs share) (omega (arith, met, sums, low, paid)))
  where
    times : (x c d k u : ℕ) → x * c ≤ d * k → x * (u * c) ≤ d * (u * k)
    times x c d k u h = omega (arith, mul-le-mul_left u h)

    minus : (a b c : ℕ) → a * share.scale ≤ share.scale * b + c → (a - b) * share.scale ≤ c
    minus a b c h = omega (arith, h, mul-sub share.scale a b)

pub greatest_raw : (p : Case) (pairs : List UnitPair) (cuts : List CutLine) (share : Share) (den : ℕ) (lines : List CertificateLine) → All (λ l. All IsModule l.modules) p.links → AreUnitPairs p.links pairs
    → IsLeastShare p.links pairs cuts share → IsCertificate p den lines → All (λ l. Contains cuts l.cut) lines → raw_value p.links lines * share.scale ≤ share_cost pairs share * den
greatest_raw p pairs cuts share den lines sound units least is listed =
    unviolated_raw p pairs share den lines sound units least.count is (λ k d lt v. least_violates_none p.links pairs cuts share (get_or lines k d).cut units.count (is.each k d lt).kept.count least (listed k d lt) v)
