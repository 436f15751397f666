-- the greater of two bounds, that of a best certificate and that of the best cut alone, is certified
use Rattle.std.proofs.Common.{◌≡◌, ℕ, ◌*◌, ◌^◌, ◌<◌, ◌≤◌, ⊎_elim, List, [], ◌∷◌, ◌++◌, All, Some, get_or, length, map, slice_get, refl, sym, ap, subst, ◌∙◌, arith, mul-le-mul_left, length-append}
use Rattle.net_core.proofs.Library.{◌∣◌, le_of_mul-le-mul_left, get_or_append_left, length-map, All-cons, All-head, All-map, All-nil, All-tail, get_or_from_slice_get, slice_get-get_or, slice_get_within}
use Rattle.plan_terms.{specs.Terms.{Entry, Link, CutLine, Case, IsBound, IsLowest, CertificateLine, IsCertificate, IsCut, raw_value, HasShortLengths}, proofs.Lemmas.lowest_positive}
use Rattle.plan_report.specs.Terms.{IsCertificateLineInForm, CertLine, Spot, Local}
use Rattle.cut_pool.specs.Terms.{cut_of_line, cuts_of}
use Rattle.plan_rounds.{specs.Terms.{IsBestOf, cut_at, lines_of, Best, Multiplier, IsSpotIn}, specs.declared.rounds.Worked.Worked}
use Rattle.planner.{specs.declared.own_bound.CertifiedBound.CertifiedBound, specs.inner.Candidates.{IsBestBound, IsBoundOfBest}, specs.inner.Finishing.{AreMultipliersOf, bound_made, line_at}, proofs.BestBounds.{lowest_small, spot_in_form}, proofs.Candidates.{AreCandidates, IsCandidate, IsCertifiedBound}}

-- what holds of all images holds of all items
unmap : {X Y : Type 0} (P : Y → Type 0) (f : X → Y) (xs : List X) → All P (map f xs) → All (λ x. P (f x)) xs
unmap P f [] all = All-nil (λ x. P (f x))
unmap P f (x ∷ xs) all = All-cons (λ x. P (f x)) x xs (All-head P (f x) (map f xs) all) (unmap P f xs (All-tail P (f x) (map f xs) all))

abbrev none_cut : CutLine
none_cut = record { state = record { 0 = 0 }; lengths = []; right = 0 }

-- a fraction and its lowest terms have equal bounds
bound_back : (links : List Link) (a b c d bound : ℕ) → 0 < b → 0 < d → a * d ≡ c * b → IsBound links c d bound → IsBound links a b bound
bound_back links a b c d bound some_b some_d same is = record {
  divisor = is.divisor;
  is_divisor = is.is_divisor;
  multiple = is.multiple;
  reaches = λ positive.
      let one : b * c ≤ b * (bound * d) = mul-le-mul_left b (is.reaches positive) in
      let all : d * a ≤ d * (bound * b) = omega (arith, one, same) in
      le_of_mul-le-mul_left all some_d;
  least = λ other divides reached.
      let one : d * a ≤ d * (other * b) = mul-le-mul_left d reached in
      let all : b * c ≤ b * (other * d) = omega (arith, one, same) in
      is.least other divides (le_of_mul-le-mul_left all some_b);
}

-- ---- best certificates

module _ (w : Worked) (cuts more : List CutLine) (following : w.lines ≡ cuts ++ more) where
  -- the cut at a place of the cuts before is at this place of all
  cut_before : (k : ℕ) → k < length cuts → cut_at w.lines k ≡ cut_at cuts k
  cut_before k lt = ap (λ xs. cut_at xs k) following ∙ get_or_append_left cuts more none_cut k lt

  same_lines : (ms : List Multiplier) → All (λ m. m.cut < length cuts) ms → map (λ (l : CertLine). record { cut = l.cut; num = l.num }) (map (line_at w) ms) ≡ lines_of cuts ms
  same_lines [] all = refl
  same_lines (m ∷ ms) all =
      let first : CertificateLine = record { cut = cut_at w.lines m.cut; num = m.num } in
      let second : CertificateLine = record { cut = cut_at cuts m.cut; num = m.num } in
      let head : first ≡ second = ap (λ (x : CutLine). record { cut = x; num = m.num }) (cut_before m.cut (All-head (λ (x : Multiplier). x.cut < length cuts) m ms all)) in
      let tail = same_lines ms (All-tail (λ (x : Multiplier). x.cut < length cuts) m ms all) in
      ap (λ (x : CertificateLine). x ∷ map (λ (l : CertLine). record { cut = l.cut; num = l.num }) (map (line_at w) ms)) head ∙ ap (λ xs. second ∷ xs) tail

  places_before : (ms : List Multiplier) → All (λ m. m.cut < length cuts) ms → All (λ m. m.cut < length w.lines) ms
  places_before ms all k d lt =
      let long = ap length following in
      let one = all k d lt in
      omega (arith, one, long, length-append cuts more)

module _ (p : Case) (history : List Entry) (w : Worked) (are : AreCandidates p history w) (cuts more : List CutLine) (following : w.lines ≡ cuts ++ more) (best : Best) (of : IsBestOf p.links cuts best) where
  ms : List Multiplier
  ms = best.multipliers

  cuts_are : All (IsCut p) cuts
  cuts_are k d lt =
      let long = ap length following in
      let inside : k < length w.lines = omega (arith, lt, long, length-append cuts more) in
      subst (IsCut p) (ap (λ xs. get_or xs k d) following ∙ get_or_append_left cuts more d k lt) (are.cuts k d inside).cut_is

  certificate_before : IsCertificate p best.den (lines_of cuts best.multipliers)
  certificate_before = of.certificate p refl cuts_are

  -- its raw value is within the limits
  raw_limits : (best.raw_num < 2 ^ 126) × (0 < best.raw_den) × (best.raw_den < 2 ^ 72)
  raw_limits =
      let is = certificate_before in
      let small = lowest_small (raw_value p.links (lines_of cuts best.multipliers)) best.den best.raw_num best.raw_den is.positive of.raw in
      (omega (arith, small.0, is.asked_limit), lowest_positive (raw_value p.links (lines_of cuts best.multipliers)) best.den best.raw_num best.raw_den is.positive of.raw, omega (arith, small.1, is.den_limit))

  pub best_multipliers : AreMultipliersOf w best
  best_multipliers = record { num = raw_limits.0; positive = raw_limits.1; den = raw_limits.2; listed = places_before w cuts more following best.multipliers of.multipliers.listed }

  -- what holds of each cut with its spot holds of each line
  pub lines_of_best : (P : CutLine → Spot → Type 0) → ((i : ℕ) (line : CutLine) (spot : Spot) → slice_get w.lines i ≡ Some line → slice_get w.spots i ≡ Some spot → P line spot)
      → All (λ (l : CertLine). P l.cut l.spot) (map (line_at w) best.multipliers)
  lines_of_best P each = All-map (λ (l : CertLine). P l.cut l.spot) (line_at w) best.multipliers (λ k d lt.
      let m : Multiplier = get_or best.multipliers k d in
      let inside : m.cut < length w.lines = places_before w cuts more following best.multipliers of.multipliers.listed k d lt in
      each m.cut (cut_at w.lines m.cut) (get_or w.spots m.cut Local)
      (slice_get-get_or w.lines m.cut none_cut inside)
      (slice_get-get_or w.spots m.cut Local (omega (arith, inside, are.stand.count))))

  lowest_common : (d : ℕ) → d ∣ best.den → All (λ (l : CertLine). d ∣ l.num) (map (line_at w) best.multipliers) → d ≡ 1
  lowest_common d in_den all = of.lowest d in_den (unmap (λ (l : CertLine). d ∣ l.num) (line_at w) best.multipliers all)

  module _ (few : length (cuts_of history) ≤ 4096) (short : All HasShortLengths w.lines) (bound : ℕ) (rounded : IsBound p.links best.raw_num best.raw_den bound) where
    line_forms : All (IsCertificateLineInForm p.links p.listed) (map (line_at w) best.multipliers)
    line_forms k d lt =
        let nums = unmap (λ (l : CertificateLine). l.num < 2 ^ 62) (λ (m : Multiplier). record { cut = cut_at cuts m.cut; num = m.num }) best.multipliers certificate_before.nums in
        let num_all : All (λ (l : CertLine). l.num < 2 ^ 62) (map (line_at w) best.multipliers) = All-map (λ (l : CertLine). l.num < 2 ^ 62) (line_at w) best.multipliers nums in
        let spot_all = lines_of_best (λ line spot. IsSpotIn history (cut_of_line line) spot) are.stand.each in
        let cut_all = lines_of_best (λ line spot. IsCandidate p line × HasShortLengths line) (λ i line spot at at_spot.
        let within = slice_get_within w.lines i line at in
        let got = get_or_from_slice_get w.lines i line line at in
        (subst (IsCandidate p) got (are.cuts i line within), subst HasShortLengths got (short i line within))) in
        let is = cut_all k d lt in
        let l : CertLine = get_or (map (line_at w) best.multipliers) k d in
        record {
          num = num_all k d lt;
          spot = spot_in_form history (cut_of_line l.cut) l.spot few (spot_all k d lt);
          cut = record { state = is.0.cut_is.listed_state; lengths = record { long = is.0.cut_is.kept.count; each = is.1 }; right = is.0.low };
        }

    pub best_is_certified : IsCertifiedBound p history (bound_made w best bound)
    best_is_certified =
        let same = same_lines w cuts more following best.multipliers of.multipliers.listed in
        let is = certificate_before in
        record {
          certificate = subst (IsCertificate p best.den) (sym same) is;
          raw = subst (λ ls. IsLowest (raw_value p.links ls) best.den best.raw_num best.raw_den) (sym same) of.raw;
          rounded = subst (λ ls. IsBound p.links (raw_value p.links ls) best.den bound) (sym same)
              (bound_back p.links (raw_value p.links (lines_of cuts best.multipliers)) best.den best.raw_num best.raw_den bound is.positive raw_limits.1 of.raw.same rounded);
          lowest = record {
            common = lowest_common;
            positive = All-map (λ (l : CertLine). 0 < l.num) (line_at w) best.multipliers of.multipliers.positive;
          };
          none = λ e. ap (map (line_at w)) (of.empty e);
          form = record {
            positive = is.positive;
            den = is.den_limit;
            few = omega (arith, of.multipliers.few, length-map best.multipliers (line_at w));
            lines = line_forms;
          };
          raw_num = raw_limits.0;
          raw_den = raw_limits.2;
          spots = lines_of_best (λ line spot. IsSpotIn history (cut_of_line line) spot) are.stand.each;
        }

-- ---- the best cut alone

-- what holds of each cut with its spot holds of the lines of the best cut's certificate
pub lines_of_own : (links : List Link) (w : Worked) (b : CertifiedBound) (P : CutLine → Spot → Type 0)
    → ((i : ℕ) (line : CutLine) (spot : Spot) → slice_get w.lines i ≡ Some line → slice_get w.spots i ≡ Some spot → P line spot)
    → IsBestBound links w b → All (λ (l : CertLine). P l.cut l.spot) b.certificate.lines
lines_of_own links w b P each best =
    let Q : CertifiedBound → Type 0 = λ x. All (λ (l : CertLine). P l.cut l.spot) x.certificate.lines in
    let nothing : All (λ (l : CertLine). P l.cut l.spot) [] = All-nil (λ (l : CertLine). P l.cut l.spot) in
    ⊎_elim
    (λ none. subst Q (sym none.1.is) nothing)
    (λ (some : (k : ℕ) × IsBoundOfBest links w k b).
    let is = some.1 in
    ⊎_elim
    (λ none. subst Q (sym none.1.is) nothing)
    (λ one. subst Q (sym one.1) (All-cons (λ (l : CertLine). P l.cut l.spot) (record { num = is.of_cut.own.multiplier.num; spot = is.spot; cut = is.cut }) [] (each some.0 is.cut is.spot is.at is.spot_at) nothing))
    is.of_cut.is)
    best

-- its raw value has a positive denominator
pub own_positive : (links : List Link) (w : Worked) (b : CertifiedBound) → IsBestBound links w b → 0 < b.raw.den
own_positive links w b best =
    let Q : CertifiedBound → Type 0 = λ x. 0 < x.raw.den in
    let nothing : 0 < 1 = omega arith in
    ⊎_elim
    (λ none. subst Q (sym none.1.is) nothing)
    (λ (some : (k : ℕ) × IsBoundOfBest links w k b).
    let is = some.1.of_cut in
    ⊎_elim
    (λ none. subst Q (sym none.1.is) nothing)
    (λ one. subst Q (sym one.1) (lowest_positive _ is.own.multiplier.den is.own.raw.num is.own.raw.den is.certificate.multiplier.valid.positive is.certificate.raw))
    is.is)
    best

-- ---- the greater of the two

-- no certificate of the cuts of a least share has a greater raw value than the share costs
pub no_greater : (v d s c n e N E : ℕ) → 0 < d → 0 < s → v * s ≤ c * d → v * e ≡ n * d → c * E ≡ N * s → N * e < n * E → ⊥
no_greater v d s c n e N E some_d some_s most raw cost greater =
    let one : E * e * (v * s) ≤ E * e * (c * d) = mul-le-mul_left (E * e) most in
    let two : E * e * (v * s) ≡ d * s * (n * E) = omega (arith, ap (λ x. E * s * x) raw) in
    let three : E * e * (c * d) ≡ d * s * (N * e) = omega (arith, ap (λ x. e * d * x) cost) in
    let all : d * s * (n * E) ≤ d * s * (N * e) = omega (arith, one, two, three) in
    let some : 0 < d * s = omega (arith, mul-le-mul_left d some_s, some_d) in
    let less : n * E ≤ N * e = le_of_mul-le-mul_left all some in
    omega (arith, less, greater)

-- what costs as much as a raw value costs no more than a greater one
pub keeps_up : (c s N E n e : ℕ) → 0 < E → c * E ≡ N * s → N * e ≤ n * E → c * e ≤ n * s
keeps_up c s N E n e some cost le =
    let one : s * (N * e) ≤ s * (n * E) = mul-le-mul_left s le in
    let two : E * (c * e) ≡ s * (N * e) = omega (arith, ap (λ x. e * x) cost) in
    let all : E * (c * e) ≤ E * (n * s) = omega (arith, one, two) in
    le_of_mul-le-mul_left all some
