-- the parts of table lines
use Rattle.std.proofs.Common.{◌≡◌, ℕ, zero, suc, ◌+◌, ◌<◌, ◌≤◌, ⊎_elim, ◌↔◌, Bool, true, false, add-one, ne_eqb, List, [], ◌∷◌, drop, length, min, slice_index, zip, refl, ap, subst, arith}
use Rattle.net_core.proofs.Library.{both_ways, cases_lt}
use Rattle.plan_terms.specs.Terms.{Case, Link}
use Rattle.line_check.{specs.CoverWeights.CoversNeed, specs.Inequalities.{module_number, need_of}, specs.Lines.{AreKinds, IsTableOver, IsTableRight, IsWeightWithout, NeverFails, capped, weight_of}, specs.declared.inequality.Inequality.Inequality, specs.declared.line.TableKind.TableKind, specs.declared.line.TableKind.TheVariants.{Plain, Failing}, specs.inner.Tables.GivesOn, proofs.RisingKinds.kinds_same}

-- ---- the weight of a kind

weight_suc : (kinds weights : List ℕ) (n k : ℕ) → length weights ≡ length kinds → k < length kinds → (slice_index kinds k ≡ n → ⊥)
    → weight_of (zip (drop k kinds) (drop k weights)) n ≡ weight_of (zip (drop (suc k) kinds) (drop (suc k) weights)) n
weight_suc [] weights n k paired inside isn't = absurd (omega (arith, inside))
weight_suc (x ∷ xs) [] n k paired inside isn't = absurd (omega (arith, paired))
weight_suc (x ∷ xs) (w ∷ ws) n zero paired inside isn't = rw (ne_eqb x n isn't) refl
weight_suc (x ∷ xs) (w ∷ ws) n (suc k) paired inside isn't = weight_suc xs ws n k (omega (arith, paired)) (omega (arith, inside)) isn't

pub weight_later : (kinds weights : List ℕ) (n k : ℕ) → length weights ≡ length kinds → k < length kinds → (slice_index kinds k ≡ n → ⊥)
    → weight_of (zip (drop k kinds) (drop k weights)) n ≡ weight_of (zip (drop (k + 1) kinds) (drop (k + 1) weights)) n
weight_later kinds weights n k paired inside isn't = rw add-one (weight_suc kinds weights n k paired inside isn't)

-- ---- links that no state fails

pub spared_more : (p : Case) (links : List Link) (over : Inequality) (kind e modules : ℕ) (b : Bool) → modules ≡ module_number links e → ((b ≡ true) ↔ (GivesOn over e modules kind × NeverFails p e)) → b ≡ false
    → ((i m : ℕ) → i < e → m < module_number links i → capped over i m ≡ kind → NeverFails p i → ⊥)
    → (i m : ℕ) → i < e + 1 → m < module_number links i → capped over i m ≡ kind → NeverFails p i → ⊥
spared_more p links over kind e modules b same told isn't before i m lt inside gives never = ⊎_elim
    (λ (earlier : i < e). before i m earlier inside gives never)
    (λ (last : e ≤ i).
    let here : i ≡ e = omega (arith, last, lt) in
    let within : m < modules = omega (arith, same, subst (λ k. m < module_number links k) here inside) in
    both_ways b isn't (told.1 ((m, within, subst (λ k. capped over k m ≡ kind) here gives), subst (λ k. NeverFails p k) here never)))
    (cases_lt i e)

-- ---- the right side

-- the least of what is weighed without a module of one of the first kinds
pub record IsLeastSo (p : Case) (over : Inequality) (kinds weights : List ℕ) (count right : ℕ) : Type 0 where
  pub some : (k : ℕ) × IsWeightWithout p over kinds weights k right
  pub each : (k : ℕ) → k < count → (weight : ℕ) × IsWeightWithout p over kinds weights k weight × (right ≤ weight)

pub more_so : (p : Case) (over : Inequality) (kinds weights : List ℕ) (k right weight : ℕ) → IsLeastSo p over kinds weights k right → IsWeightWithout p over kinds weights k weight
    → IsLeastSo p over kinds weights (k + 1) (min right weight)
more_so p over kinds weights k right weight so is = record {
  some = ⊎_elim
      (λ (low : right < weight). let same : right ≡ min right weight = omega (arith, low) in
      (so.some.0, subst (λ n. IsWeightWithout p over kinds weights so.some.0 n) same so.some.1))
      (λ (high : weight ≤ right). let same : weight ≡ min right weight = omega (arith, high) in
      (k, subst (λ n. IsWeightWithout p over kinds weights k n) same is))
      (cases_lt right weight);
  each = λ j lt. ⊎_elim
      (λ (before : j < k). let of = so.each j before in (of.0, of.1, omega (arith, of.2)))
      (λ (last : k ≤ j). let same : k ≡ j = omega (arith, last, lt) in
      (weight, subst (λ i. IsWeightWithout p over kinds weights i weight) same is, omega arith))
      (cases_lt j k);
}

-- ---- where there is no table line

some_kinds : (kinds numbers : List ℕ) (need : ℕ) → CoversNeed kinds need numbers → 1 ≤ need → 0 < length kinds
some_kinds [] [] need cover some = omega (arith, cover.enough, some)
some_kinds [] (n ∷ ns) need cover some = absurd (omega (arith, cover.same))
some_kinds (x ∷ xs) numbers need cover some = omega arith

some_by_right : (p : Case) (over : Inequality) (kinds weights : List ℕ) (kind : TableKind) (right : ℕ) → IsTableRight p over kinds weights kind right → 1 ≤ need_of over → 0 < length kinds
some_by_right p over kinds weights Plain right is some = some_kinds kinds is.numbers (need_of over) is.cover some
some_by_right p over kinds weights Failing right is some = omega (arith, is.0.1.inside)

pub not_paired : (p : Case) (over : Inequality) (kind : TableKind) (weights kinds : List ℕ) → AreKinds p.links over kinds → ((0 < length kinds) × (length weights ≡ length kinds) → ⊥)
    → (made : Inequality) → IsTableOver p over kind weights made → ⊥
not_paired p over kind weights kinds are no_pairs made is =
    let same = ap length (kinds_same p.links over is.kinds kinds is.are are) in
    no_pairs (omega (arith, same, some_by_right p over is.kinds weights kind is.right is.is_right is.some), omega (arith, same, is.paired))

-- lines are equal where their coefficients are
abbrev pub line_with : List (List ℕ) → ℕ → Inequality
line_with coefs right = record { coefs = coefs; given = 0; right = right }

pub with_coefs : (a b : List (List ℕ)) (right : ℕ) → a ≡ b → line_with a right ≡ line_with b right
with_coefs a b right same = ap (λ coefs. line_with coefs right) same
