-- the coefficients of divided lines, module by module and link by link
use Rattle.std.proofs.Common.{◌≡◌, ℕ, ◌+◌, ◌<◌, ◌≤◌, ◌^◌, ⊎_elim, List, [], ◌∷◌, ◌++◌, get_or, length, map, ap, subst, sym, ◌∙◌, arith}
use Rattle.net_core.proofs.Library.{cases_lt, get_or-map, map-range_with_len_more, range_with_len}
use Rattle.plan_terms.specs.Terms.{Link}
use Rattle.line_check.{specs.Inequalities.{WeightedLine, module_number, module_price}, specs.inner.Dividing.{AreDividedCoefs, AreLinkCoefs, divided_coef}}

-- how many modules the link of a place has
pub number_at : (links : List Link) (e : ℕ) (l : Link) → e < length links → module_number links e ≡ length (get_or links e l).modules
number_at links e l lt = get_or-map (λ (x : Link). length x.modules) links e l 0 lt

-- a module more
pub module_more : (terms : List WeightedLine) (need divisor e m coef : ℕ) (coefs : List ℕ) → AreLinkCoefs terms need divisor e m coefs → module_price terms e m < 2 ^ 126
    → coef ≡ divided_coef terms need divisor e m → AreLinkCoefs terms need divisor e (m + 1) (coefs ++ coef ∷ [])
module_more terms need divisor e m coef coefs so_far low own = record {
  is =
      ap (λ xs. xs ++ coef ∷ []) so_far.is
      ∙ ap (λ n. map (divided_coef terms need divisor e) (range_with_len 0 m) ++ n ∷ []) own
      ∙ sym (map-range_with_len_more (divided_coef terms need divisor e) 0 m m (omega arith));
  fit = λ k lt. ⊎_elim
      (λ (before : k < m). so_far.fit k before)
      (λ (last : m ≤ k). let same : m ≡ k = omega (arith, lt, last) in subst (λ i. module_price terms e i < 2 ^ 126) same low)
      (cases_lt k m);
}

-- a link more
pub link_more : (links : List Link) (terms : List WeightedLine) (need divisor e : ℕ) (row : List ℕ) (coefs : List (List ℕ)) → AreDividedCoefs links terms need divisor e coefs
    → AreLinkCoefs terms need divisor e (module_number links e) row → AreDividedCoefs links terms need divisor (e + 1) (coefs ++ row ∷ [])
link_more links terms need divisor e row coefs so_far own =
    let rows : ℕ → List ℕ = λ i. map (divided_coef terms need divisor i) (range_with_len 0 (module_number links i)) in
    record {
      is =
          ap (λ xs. xs ++ row ∷ []) so_far.is
          ∙ ap (λ (r : List ℕ). map rows (range_with_len 0 e) ++ r ∷ []) own.is
          ∙ sym (map-range_with_len_more rows 0 e e (omega arith));
      fit = λ i m lt inside. ⊎_elim
          (λ (before : i < e). so_far.fit i m before inside)
          (λ (last : e ≤ i). let same : i ≡ e = omega (arith, lt, last) in
          subst (λ k. module_price terms k m < 2 ^ 126) (sym same) (own.fit m (subst (λ k. m < module_number links k) same inside)))
          (cases_lt i e);
    }
