-- a key as a candidate
use Rattle.std.proofs.Common.{◌≡◌, ℕ, ℤ, List, Option, Some, None, Ok, pos, length, ◌+◌, ◌<◌, ◌*ℤ◌, MatchOption, slice_get, unsigned_abs, sym, ap, ◌∙◌, subst, arith, ◌<ℤ◌, ◌≤ℤ◌}
use Rattle.net_core.proofs.Library.{*ℤ_comm, ints}
use Rattle.checked_fraction.{specs.Terms.num, specs.declared.row.Row.Row, proofs.Products.positive_factor}
use Rattle.simplex_core.specs.Terms.{den_of, den_at}
use Rattle.key_rows.{specs.KeyRows.{IsOwn, AreWeights}, specs.KeyTests.product_over, specs.inner.Candidates.{IsKeyTest, value_over}, specs.declared.keyed.Keyed.Keyed, specs.declared.order.Candidate.Candidate}

den_positive : (row : Option Row) → pos 0 <ℤ den_of row
den_positive None = omega (arith, ints)
den_positive (Some row) = row.positive

-- the weights of a demand's rows are positive
pub weight_positive : (rows : List Row) (owners : List ℕ) (weights : List ℤ) (d i : ℕ) (all : ℤ) → AreWeights rows owners weights d all → i < length rows → IsOwn owners d i → pos 0 ≤ℤ num weights i
weight_positive rows owners weights d i all are lt own =
    let den = den_at rows i in
    let high : pos 0 <ℤ den = den_positive (slice_get rows i) in
    let is : den ≡ pos (unsigned_abs den) = omega (arith, ints, high) in
    let times : all ≡ pos (unsigned_abs den) *ℤ num weights i = sym (are.each i lt own) ∙ (*ℤ_comm (num weights i) den ∙ ap (λ x. x *ℤ num weights i) is) in
    weaker (positive_factor (unsigned_abs den) (num weights i) all times are.positive)
  where
    weaker : {x : ℤ} → pos 0 <ℤ x → pos 0 ≤ℤ x
    weaker {x} h = omega (arith, ints, h)

-- the candidate of a key, if its product is positive
pub tested : (b : Keyed) (d : ℕ) (own : ℤ) (weights : List ℤ) (all : ℤ) (role value : ℕ) (step : ℤ) → AreWeights b.rows b.owners weights d all → step ≡ product_over b d weights all own
    → pos value ≡ value_over b d weights all → role ≡ length b.rows + d → (result : Option Candidate)
    → MatchOption result (step ≤ℤ pos 0) (λ x. (x.role ≡ role) × (x.value ≡ value) × (x.product ≡ step) × (pos 0 <ℤ x.product)) → IsKeyTest b d own (Ok result)
tested b d own weights all role value step are is_step is_value is_role None h = (weights, all, are, subst (λ x. x ≤ℤ pos 0) is_step h)
tested b d own weights all role value step are is_step is_value is_role (Some x) h = record {
  weights = weights;
  all = all;
  are = are;
  role = h.0 ∙ is_role;
  value = ap pos h.1 ∙ is_value;
  product = h.2 ∙ is_step;
  positive = h.3;
}
