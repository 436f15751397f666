-- amounts that fill the rows of the master program, by the inverse
use Rattle.std.proofs.Common.{◌≡◌, ℕ, ◌<◌, List, length, sym, ap, ◌∙◌, ℤ, pos, ◌*ℤ◌}
use Rattle.module_prices.specs.declared.cheapest.UnitPair.{UnitPair}
use Rattle.plan_terms.specs.Terms.{MasterColumn, Link, CutLine}
use Rattle.simplex_law.{specs.Terms.{dot, unit_vector, ColumnOf, IsRow, IsBest}, proofs.Lemmas.{moved_out, priced, sum-same, sum-times, sum-unit}}
use Rattle.checked_fraction.proofs.Products.{regroup}
use Rattle.master_law.{specs.MasterEvidence.FillRows, specs.MasterPrograms.{master_bound, IsMasterColumn}}

module _ (links : List Link) (pairs : List UnitPair) (cuts : List CutLine) (basis : ℕ → ColumnOf MasterColumn) (duals : ℕ → ℤ) (duals_den : ℤ) (best : IsBest (length links) (master_bound pairs) (IsMasterColumn links pairs cuts) basis duals duals_den) where
  -- the amounts that fill the rows are those of the inverse
  pub amount_is : (amounts : ℕ → ℤ) (den : ℕ) → FillRows links pairs cuts basis amounts den → (i : ℕ) (nums : ℕ → ℤ) (d : ℤ) → i < length links → IsRow (length links) (λ j. (basis j).entry) (unit_vector i) nums d
      → amounts i *ℤ d ≡ pos den *ℤ dot (length links) nums (master_bound pairs)
  amount_is amounts den fill i nums d l row =
      let m = length links in
      sym (sum-unit m i (λ j. amounts j *ℤ d) l)
      ∙ (sum-same m _ (λ j. amounts j *ℤ dot m nums ((basis j).entry)) (λ j h. regroup (amounts j) d (unit_vector i j) ∙ ap (λ x. amounts j *ℤ x) (sym (row j h)))
      ∙ (priced m m amounts nums (λ j. (basis j).entry)
      ∙ (sum-same m _ (λ k. pos den *ℤ (nums k *ℤ master_bound pairs k)) (λ k h. ap (λ x. nums k *ℤ x) (fill k h) ∙ moved_out (nums k) (pos den) (master_bound pairs k))
      ∙ sum-times m (pos den) (λ k. nums k *ℤ master_bound pairs k))))
