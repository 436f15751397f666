-- the bound of the best candidate is certified, and at least the own bound of each
use Rattle.std.{proofs.Common.{◌≡◌, ℕ, suc, ◌-◌, ◌*◌, ◌^◌, ◌<◌, ◌≤◌, ⊎_elim, List, [], ◌∷◌, All, Some, get_or, length, slice_get, refl, sym, ap, subst, ◌∙◌, arith, mul-le-mul_left}, proofs.lemmas.Nat.Gcd.le_of_dvd}
use Rattle.net_core.proofs.Library.{◌∣◌, ∥∥₁_elim, ∥∥₁_map, props, All-nil, All-get_or, dvd-zero, get_or_from_slice_get, slice_get-get_or, slice_get_within, dvd-mul_left, eq-one_of_dvd-one, le_of_mul-le-mul_left, all_one, positive_factors}
use Rattle.plan_terms.{specs.Terms.{Entry, Link, CutLine, Case, IsNetwork, IsBound, IsLowest, IsCertificate, fixed_along, IsBestOwn, IsOwnBound}, proofs.Lemmas.{bound_same, lowest_positive, alone, certificate_alone, empty_certificate, empty_raw, own_bound_unique, product_below, raw_alone}}
use Rattle.plan_report.specs.Terms.{IsCertificateLineInForm, IsSpotInForm, CertLine, Spot, Pool, Local}
use Rattle.cut_pool.specs.Terms.{cut_of_line, cuts_of}
use Rattle.metric_cut.specs.declared.certificate.OwnCertificate.{OwnCertificate}
use Rattle.plan_rounds.{specs.Terms.IsSpotIn, specs.declared.rounds.Worked.Worked, proofs.Bounding.has_bound}
use Rattle.checked_fraction.proofs.Once.{divides_rest, shared_divisor}
use Rattle.planner.{specs.SoundPlans.IsOwnAtMost, specs.inner.Candidates.{HaveBounds, IsBestBound, IsBoundOfBest, IsBoundOfCut, IsBoundOfNone, IsOwnCertificate}, specs.declared.own_bound.CertifiedBound.CertifiedBound, proofs.Candidates.{AreCandidates, IsCandidate, IsCertifiedBound}}

-- the bound of a cut at its place, where that is the first of greatest own bound
pub best_of_cut : (links : List Link) (w : Worked) (k : ℕ) (lines : List CutLine) (spots : List Spot) → lines ≡ w.lines → spots ≡ w.spots → length w.spots ≡ length w.lines
    → (cut : CutLine) (other : Spot) (b : CertifiedBound) → cut ≡ get_or lines k cut → IsBestOwn links w.lines k → IsBoundOfCut links cut (get_or spots k other) b → IsBoundOfBest links w k b
best_of_cut links w k lines spots one two same cut other b is best of =
    let inside : k < length w.lines = slice_get_within w.lines k best.cut best.at in
    record {
      cut = cut;
      at = slice_get-get_or w.lines k cut inside ∙ ap Some (sym (is ∙ ap (λ (xs : List CutLine). get_or xs k cut) one));
      spot = get_or w.spots k other;
      spot_at = slice_get-get_or w.spots k other (omega (arith, inside, same));
      best = best;
      of_cut = subst (λ (xs : List Spot). IsBoundOfCut links cut (get_or xs k other) b) two of;
    }

-- where the raw value is 0, so is the bound
bound_zero : (links : List Link) (num den bound : ℕ) → IsBound links num den bound → num ≡ 0 → bound ≡ 0
bound_zero links num den bound b none =
    let le : bound ≤ 0 = b.least 0 (dvd-zero b.divisor) (omega (arith, none)) in omega (arith, le)

-- ---- lengths that a state keeps

-- so has each candidate, with a right side below 2^84
pub have_bounds : (p : Case) (history : List Entry) (w : Worked) → ∥ AreCandidates p history w ∥₁ → length w.lines < 2 ^ 32 → HaveBounds p.links w
have_bounds p history w told few = record {
  same = ∥∥₁_elim told (hlevel props) (λ are. are.stand.count);
  few = few;
  lengths = λ k d lt. has_bound p (get_or w.lines k d) (∥∥₁_map told (λ are. (are.cuts k d lt).cut_is));
  right = λ k d lt. ∥∥₁_elim told (hlevel props) (λ are. (are.cuts k d lt).low);
}

-- ---- fractions in lowest terms

-- lowest terms are no greater
pub lowest_small : (a b c d : ℕ) → 0 < b → IsLowest a b c d → (c ≤ a) × (d ≤ b)
lowest_small a b c d some low =
    let turned : c * b ≡ b * c = omega arith in
    let s = shared_divisor (λ x. d ∣ b * x) (divides_rest d b) (suc d) c d (omega arith) (subst (λ x. d ∣ x) (low.same ∙ turned) (dvd-mul_left d a)) (dvd-mul_left d b) in
    let all_one : s.0 ≡ 1 = low.lowest s.0 s.1 s.2 in
    let same : b * 1 ≡ b = omega arith in
    let divides : d ∣ b = subst (λ x. d ∣ x) same (subst (λ g. d ∣ b * g) all_one s.3) in
    let den : d ≤ b = le_of_dvd some divides in
    let more : c * d ≤ c * b = mul-le-mul_left c den in
    let all : d * c ≤ d * a = omega (arith, more, low.same) in
    (le_of_mul-le-mul_left all (lowest_positive a b c d some low), den)

-- a positive fraction has a positive numerator
raw_some : (num rest den raw raw_den : ℕ) → 0 < den → IsLowest (num * rest) den raw raw_den → 0 < raw → 0 < num
raw_some num rest den raw raw_den positive low some =
    let left : raw * 1 ≤ raw * den = mul-le-mul_left raw positive in
    let all : 0 < num * rest * raw_den = omega (arith, left, low.same, some) in
    (positive_factors num rest (positive_factors (num * rest) raw_den all).0).0

-- ---- certificates

pub spot_in_form : (history : List Entry) (cut : ℕ × List ℕ) (spot : Spot) → length (cuts_of history) ≤ 4096 → IsSpotIn history cut spot → IsSpotInForm spot
spot_in_form history cut (Pool i) few at = let within = slice_get_within (cuts_of history) i cut at in omega (arith, few, within)
spot_in_form history cut Local few at = tt

module _ (p : Case) (checked : ∥ IsNetwork p.nodes p.links ∥₁) (history : List Entry) where
  none_certified : (b : CertifiedBound) → IsBoundOfNone p.links b → IsCertifiedBound p history b
  none_certified b none = subst (IsCertifiedBound p history) (sym none.is) (record {
    certificate = empty_certificate p;
    raw = subst (λ n. IsLowest n 1 0 1) (sym (empty_raw p.links)) (record { same = refl; lowest = λ k zero' whole. eq-one_of_dvd-one whole });
    rounded = subst (λ n. IsBound p.links n 1 0) (sym (empty_raw p.links)) none.rounded;
    lowest = record { common = λ d whole all. eq-one_of_dvd-one whole; positive = All-nil (λ (l : CertLine). 0 < l.num) };
    none = λ e. refl;
    form = record { positive = omega arith; den = omega arith; few = omega arith; lines = All-nil (IsCertificateLineInForm p.links p.listed) };
    raw_num = omega arith;
    raw_den = omega arith;
    spots = All-nil (λ (l : CertLine). IsSpotIn history (cut_of_line l.cut) l.spot);
  })

  module _ (few : length (cuts_of history) ≤ 4096) (cut : CutLine) (spot : Spot) (is : IsCandidate p cut) (at : IsSpotIn history (cut_of_line cut) spot) where
    alone_certified : (own : OwnCertificate) → 0 < own.raw.num → All (λ x. x < 2 ^ 32) cut.lengths → IsOwnCertificate p.links cut own
        → IsCertifiedBound p history (record { certificate = record { den = own.multiplier.den; lines = record { num = own.multiplier.num; spot = spot; cut = cut } ∷ [] }; raw = own.raw; bound = own.bound })
    alone_certified own some small o =
        let num = own.multiplier.num in
        let den = own.multiplier.den in
        let rest = cut.right - fixed_along cut.lengths p.links in
        let raw = sym (raw_alone p.links cut num) in
        let certificate : IsCertificate p den (alone cut num) = certificate_alone p cut num den checked is.cut_is small is.low o.multiplier.valid o.num o.den in
        let line : CertLine = record { num = num; spot = spot; cut = cut } in
        let positive = o.multiplier.valid.positive in
        let below = lowest_small (num * rest) den own.raw.num own.raw.den positive o.raw in
        let value : num * rest < 2 ^ 40 * 2 ^ 84 = product_below num rest (2 ^ 40) (2 ^ 84) o.num (omega arith) (omega (arith, is.low)) in
        record {
          certificate = certificate;
          raw = subst (λ n. IsLowest n den own.raw.num own.raw.den) raw o.raw;
          rounded = subst (λ n. IsBound p.links n den own.bound) raw o.rounded;
          lowest = record {
            common = λ d in_den all. o.multiplier.lowest d (All-get_or (λ (l : CertLine). d ∣ l.num) (line ∷ []) 0 line (omega arith) all) in_den;
            positive = all_one (λ (l : CertLine). 0 < l.num) line (raw_some num rest den own.raw.num own.raw.den positive o.raw some);
          };
          none = λ e. absurd (omega (arith, e, some));
          form = record {
            positive = positive;
            den = o.den;
            few = omega arith;
            lines = all_one (IsCertificateLineInForm p.links p.listed) line (record {
              num = omega (arith, o.num);
              spot = spot_in_form history (cut_of_line cut) spot few at;
              cut = record { state = is.cut_is.listed_state; lengths = record { long = is.cut_is.kept.count; each = small }; right = is.low };
            });
          };
          raw_num = omega (arith, below.0, value);
          raw_den = omega (arith, below.1, o.den);
          spots = all_one (λ (l : CertLine). IsSpotIn history (cut_of_line l.cut) l.spot) line at;
        }

    cut_certified : (b : CertifiedBound) → IsBoundOfCut p.links cut spot b → IsCertifiedBound p history b
    cut_certified b of_cut = ⊎_elim
        (λ none. none_certified b none.1)
        (λ some. subst (IsCertifiedBound p history) (sym some.1) (alone_certified of_cut.own some.0 of_cut.small of_cut.certificate))
        of_cut.is

  -- the best bound is certified
  pub best_certified : (few : length (cuts_of history) ≤ 4096) (w : Worked) (b : CertifiedBound) → AreCandidates p history w → IsBestBound p.links w b → IsCertifiedBound p history b
  best_certified few w b h best = ⊎_elim
      (λ none. none_certified b none.1)
      (λ (some : (k : ℕ) × IsBoundOfBest p.links w k b).
      let k = some.0 in
      let is = some.1 in
      let within = slice_get_within w.lines k is.cut is.at in
      let candidate = subst (IsCandidate p) (get_or_from_slice_get w.lines k is.cut is.cut is.at) (h.cuts k is.cut within) in
      cut_certified few is.cut is.spot candidate (h.stand.each k is.cut is.spot is.at is.spot_at) b is.of_cut)
      best

own_of : (links : List Link) (cut : CutLine) (own : OwnCertificate) → IsOwnCertificate links cut own → IsOwnBound links cut.lengths cut.right own.bound
own_of links cut own o = record { num = own.multiplier.num; den = own.multiplier.den; multiplier = o.multiplier; rounded = o.rounded }

-- the bound is the own bound of the best cut
bound_of_best : (links : List Link) (cut : CutLine) (spot : Spot) (b : CertifiedBound) (best : ℕ) → IsOwnBound links cut.lengths cut.right best → IsBoundOfCut links cut spot b → best ≡ b.bound
bound_of_best links cut spot b best own is =
    let o = is.certificate in
    let same : best ≡ is.own.bound = own_bound_unique links cut.lengths cut.right best is.own.bound own (own_of links cut is.own o) in
    ⊎_elim
    (λ none.
    let value = is.own.multiplier.num * (cut.right - fixed_along cut.lengths links) in
    let reduced = bound_same links value is.own.multiplier.den is.own.raw.num is.own.raw.den is.own.bound o.multiplier.valid.positive o.raw o.rounded in
    same ∙ (bound_zero links is.own.raw.num is.own.raw.den is.own.bound reduced none.0 ∙ sym (ap (λ (x : CertifiedBound). x.bound) none.1.is)))
    (λ some. same ∙ sym (ap (λ (x : CertifiedBound). x.bound) some.1))
    is.is

-- each candidate's own bound is at most the best one
pub each_at_most : (p : Case) (history : List Entry) (w : Worked) (b : CertifiedBound) → AreCandidates p history w → IsBestBound p.links w b
    → (i : ℕ) (line : CutLine) → slice_get w.lines i ≡ Some line → IsOwnAtMost p b.bound line.state.0 line.lengths
each_at_most p history w b h best i line at = ⊎_elim
    (λ none. absurd (let e : slice_get [] i ≡ Some line = subst (λ (xs : List CutLine). slice_get xs i ≡ Some line) none.0 at in cc e))
    (λ (some : (k : ℕ) × IsBoundOfBest p.links w k b).
    let is = some.1 in
    let own = is.best.each i line at in
    let same : is.best.cut ≡ is.cut = cc (is.best.at, is.at) in
    let top = bound_of_best p.links is.cut is.spot b is.best.best (subst (λ (x : CutLine). IsOwnBound p.links x.lengths x.right is.best.best) same is.best.own) is.of_cut in
    let within = slice_get_within w.lines i line at in
    let candidate = subst (IsCandidate p) (get_or_from_slice_get w.lines i line line at) (h.cuts i line within) in
    record { right = line.right; is_right = candidate.cut_is.right; own = own.0; is_own = own.1; at_most = omega (arith, own.2, top) })
    best
