-- the certificate of a cut alone
use Rattle.std.proofs.Common.{◌≡◌, ℕ, ◌-◌, ◌*◌, ◌^◌, ◌≤◌, ◌<◌, List, [], ◌∷◌, All, Some, length, slice_get, slice_index, get_or, sym, ap, subst, ◌∙◌, ◌+◌, arith, zip, mul-le-mul_left, mul-lt-mul_of_pos_right}
use Rattle.net_core.{proofs.Library.{∥∥₁_elim, props, sum_by-cons, recursion_from_All, All-cons, All-nil, mul-sub, AllByRecursion}, specs.declared.network.Link.Link, specs.declared.plan.CutLine.CutLine, specs.Terms.{Case, IsNetwork}}
use Rattle.plan_terms.{specs.Capacities.total_cost, specs.Certificates.{CertificateLine, IsCut, price, asked, fixed_along, given, raw_value, IsCertificate}, specs.OwnBounds.{IsValid, OwnBoundHolds, IsOwnBound}, proofs.Bounds.bound_unique, proofs.Duality.{asked_met, bound_met}}

-- a cut as the only line of a certificate
abbrev pub alone : CutLine → ℕ → List CertificateLine
alone cut num = record { cut = cut; num = num } ∷ []

-- the raw value of a cut alone, over the denominator
pub raw_alone : (links : List Link) (cut : CutLine) (num : ℕ) → raw_value links (alone cut num) ≡ num * (cut.right - fixed_along cut.lengths links)
raw_alone links cut num =
    let first : raw_value links (alone cut num) ≡ num * cut.right - num * fixed_along cut.lengths links = omega arith in
    first ∙ sym (mul-sub num cut.right (fixed_along cut.lengths links))

-- with a valid multiplier no module's price exceeds its cost
priced_alone : (links : List Link) (cut : CutLine) (num den : ℕ) → IsValid links cut.lengths num den → (e : ℕ) (l : Link) → slice_get links e ≡ Some l → All (λ m. price (alone cut num) e * m.capacity ≤ den * m.cost) l.modules
priced_alone links cut num den valid e l at k d lt =
    let same : price (alone cut num) e ≡ num * slice_index cut.lengths e = omega arith in
    subst (λ i. i * (get_or l.modules k d).capacity ≤ den * (get_or l.modules k d).cost) (sym same) (valid.priced e l at k d lt)

line_alone : (p : Case) (cut : CutLine) (num : ℕ) → IsCut p cut → All (λ l. IsCut p l.cut) (alone cut num)
line_alone p cut num is = All-cons (λ (l : CertificateLine). IsCut p l.cut) (record { cut = cut; num = num }) [] is (All-nil (λ (l : CertificateLine). IsCut p l.cut))

pub own_bound_holds : OwnBoundHolds
own_bound_holds p cut bound counts is own able =
    let lines = alone cut own.num in
    let met : asked lines ≤ given p.links lines + own.den * total_cost p.links counts = asked_met p counts able own.den lines (line_alone p cut own.num is) (priced_alone p.links cut own.num own.den own.multiplier.valid) in
    bound_met p.links (own.num * (cut.right - fixed_along cut.lengths p.links)) own.den bound counts able.shape own.rounded (omega (arith, met, raw_alone p.links cut own.num))

-- a cut has one own bound
pub own_bound_unique : (links : List Link) (lengths : List ℕ) (right x y : ℕ) → IsOwnBound links lengths right x → IsOwnBound links lengths right y → x ≡ y
own_bound_unique links lengths right x y first second =
    let less = second.multiplier.greatest first.num first.den first.multiplier.valid in
    let more = first.multiplier.greatest second.num second.den second.multiplier.valid in
    let same : first.num * second.den ≡ second.num * first.den = omega (arith, less, more) in
    let rest = right - fixed_along lengths links in
    let all : first.num * rest * second.den ≡ second.num * rest * first.den = omega (arith, ap (λ i. i * rest) same) in
    bound_unique links (first.num * rest) first.den (second.num * rest) second.den x y first.multiplier.valid.positive second.multiplier.valid.positive all first.rounded second.rounded

pub product_below : (a b p q : ℕ) → a < p → 0 < q → b < q → a * b < p * q
product_below a b p q la some lb =
    let one : a * b ≤ a * q = mul-le-mul_left a (omega arith) in
    let two : a * q < p * q = mul-lt-mul_of_pos_right la some in
    omega (arith, one, two)

-- what small pre-installed capacities give along small lengths
fixed_below : (p q : ℕ) (lengths : List ℕ) (links : List Link) → 0 < q → AllByRecursion (λ x. x < p) lengths → AllByRecursion (λ l. l.fixed < q) links → fixed_along lengths links ≤ length links * (p * q)
fixed_below p q [] links some small fixed = omega arith
fixed_below p q (x ∷ xs) [] some small fixed = omega arith
fixed_below p q (x ∷ xs) (l ∷ ls) some small fixed =
    omega (arith, product_below x l.fixed p q small.0 some fixed.0, fixed_below p q xs ls some small.1 fixed.1, sum_by-cons (λ (r : ℕ × Link). r.0 * r.1.fixed) (x, l) (zip xs ls))

fixed_limit : (nodes : List (List ℕ)) (links : List Link) (lengths : List ℕ) → IsNetwork nodes links → All (λ x. x < 2 ^ 32) lengths → fixed_along lengths links ≤ 2 ^ 80
fixed_limit nodes links lengths network small =
    let fixed : All (λ l. l.fixed < 2 ^ 40) links = λ k d lt. (network.sound k d lt).fixed in
    let sum : fixed_along lengths links ≤ length links * (2 ^ 32 * 2 ^ 40) = fixed_below (2 ^ 32) (2 ^ 40) lengths links (omega arith) (recursion_from_All (λ x. x < 2 ^ 32) lengths small) (recursion_from_All (λ l. l.fixed < 2 ^ 40) links fixed) in
    let few = network.few_links in
    omega (arith, sum, few)

-- a valid multiplier within the limits makes a cut alone a certificate
pub certificate_alone : (p : Case) (cut : CutLine) (num den : ℕ)
    → ∥ IsNetwork p.nodes p.links ∥₁ → IsCut p cut → All (λ x. x < 2 ^ 32) cut.lengths → cut.right < 2 ^ 84
    → IsValid p.links cut.lengths num den → num < 2 ^ 40 → den < 2 ^ 72
    → IsCertificate p den (alone cut num)
certificate_alone p cut num den checked is small low valid num_limit den_limit =
    let asked_small : num * cut.right < 2 ^ 40 * 2 ^ 84 = product_below num cut.right (2 ^ 40) (2 ^ 84) num_limit (omega arith) low in
    let fixed : fixed_along cut.lengths p.links ≤ 2 ^ 80 = ∥∥₁_elim checked (hlevel props) (λ network. fixed_limit p.nodes p.links cut.lengths network small) in
    let given_small : num * fixed_along cut.lengths p.links ≤ num * 2 ^ 80 = mul-le-mul_left num fixed in
    record {
      positive = valid.positive;
      den_limit = den_limit;
      nums = All-cons (λ (l : CertificateLine). l.num < 2 ^ 62) (record { cut = cut; num = num }) [] (omega (arith, num_limit)) (All-nil (λ (l : CertificateLine). l.num < 2 ^ 62));
      asked_limit = omega (arith, asked_small);
      given_limit = omega (arith, given_small, num_limit);
      each = line_alone p cut num is;
      priced = priced_alone p.links cut num den valid;
    }

-- no lines are a certificate, and its raw value is 0
pub empty_certificate : (p : Case) → IsCertificate p 1 []
empty_certificate p = record {
  positive = omega arith;
  den_limit = omega arith;
  nums = All-nil (λ (l : CertificateLine). l.num < 2 ^ 62);
  asked_limit = omega arith;
  given_limit = omega arith;
  each = All-nil (λ (l : CertificateLine). IsCut p l.cut);
  priced = λ e l at k d lt. omega arith;
}

pub empty_raw : (links : List Link) → raw_value links [] ≡ 0
empty_raw links = omega arith
