-- products with what is left of a column
use Rattle.std.proofs.Common.{◌≡◌, ℕ, ℤ, List, pos, ◌<◌, ◌+ℤ◌, ◌-ℤ◌, ◌*ℤ◌, sym, ap, ◌∙◌, subst, arith, ◌<ℤ◌}
use Rattle.net_core.proofs.Library.{*ℤ_comm, ints}
use Rattle.checked_fraction.{specs.Terms.{num, IsReduced}, specs.declared.row.Row.Row, proofs.Products.{regroup, positive_product}}
use Rattle.simplex_law.{specs.Terms.{int_sum, dot}, proofs.Lemmas.{minus_left, distribute_minus, distribute_left, moved_out, positive_cancel, priced, sum-same, sum-minus, sum-none, sum-times}}
use Rattle.simplex_core.specs.Terms.{nums_at}
use Rattle.key_rows.specs.KeyRows.{times_taken, weighted, less_rows, left_over_rows}

-- a difference of products is the product with the difference
pub left_product : (n : ℕ) (u a b : ℕ → ℤ) (x y : ℤ) → x ≡ dot n u a → y ≡ dot n u b → x -ℤ y ≡ dot n u (λ k. a k -ℤ b k)
left_product n u a b x y ex ey =
    ap (λ z. z -ℤ y) ex ∙ (ap (λ z. dot n u a -ℤ z) ey ∙ sym (sum-same n _ (λ k. (u k *ℤ a k) -ℤ (u k *ℤ b k)) (λ k l. minus_left (a k) (b k) (u k)) ∙ sum-minus n (λ k. u k *ℤ a k) (λ k. u k *ℤ b k)))

-- the product of a key's row before it is in lowest terms
pub less_rows_product : (rows : List Row) (owners : List ℕ) (weights : List ℤ) (d n m : ℕ) (x : ℕ → ℤ)
    → dot m (less_rows rows owners weights d n) x ≡ pos 0 -ℤ weighted owners weights d (λ i. dot m (nums_at rows i) x) n
less_rows_product rows owners weights d n m x =
    sum-same m _ (λ k. (pos 0) -ℤ (x k *ℤ int_sum n (λ i. times_taken owners weights d i *ℤ nums_at rows i k))) (λ k l. flip (int_sum n (λ i. times_taken owners weights d i *ℤ nums_at rows i k)) (x k))
    ∙ (sum-minus m (λ k. pos 0) (λ k. x k *ℤ int_sum n (λ i. times_taken owners weights d i *ℤ nums_at rows i k))
    ∙ (ap (λ s. s -ℤ int_sum m (λ k. x k *ℤ int_sum n (λ i. times_taken owners weights d i *ℤ nums_at rows i k))) (sum-none m)
    ∙ ap (λ s. pos 0 -ℤ s) (sym (priced n m (times_taken owners weights d) x (nums_at rows))
    ∙ sum-same n _ _ (λ i l. ap (λ s. times_taken owners weights d i *ℤ s) (sum-same m _ _ (λ k lk. *ℤ_comm (x k) (nums_at rows i k)))))))
  where
    flip : (s x : ℤ) → (pos 0 -ℤ s) *ℤ x ≡ pos 0 -ℤ (x *ℤ s)
    flip s x = distribute_minus (pos 0) s x ∙ omega (arith, ints, *ℤ_comm s x)

-- the product of a row in lowest terms, over the denominator that it has then
pub reduced_product : (m : ℕ) (f nums x : ℕ → ℤ) (all den : ℤ) → IsReduced m f all nums den → all *ℤ dot m nums x ≡ den *ℤ dot m f x
reduced_product m f nums x all den r =
    sym (sum-times m all (λ k. nums k *ℤ x k)) ∙ (sum-same m _ _ (λ k l. each (nums k) (f k) (x k) (r.same k l)) ∙ sum-times m den (λ k. f k *ℤ x k))
  where
    each : (u v y : ℤ) → u *ℤ all ≡ v *ℤ den → all *ℤ (u *ℤ y) ≡ den *ℤ (v *ℤ y)
    each u v y e = sym (regroup all u y) ∙ (ap (λ z. z *ℤ y) (*ℤ_comm all u ∙ (e ∙ *ℤ_comm v den)) ∙ regroup den v y)

-- a key's product by its row in lowest terms, over all, is that by its demand's rows over the row's denominator
pub key_scaled : (rows : List Row) (owners : List ℕ) (weights products : List ℤ) (d m : ℕ) (x nums : ℕ → ℤ) (all den own p : ℤ)
    → IsReduced m (less_rows rows owners weights d m) all nums den → ((i : ℕ) → i < m → num products i ≡ dot m (nums_at rows i) x)
    → p ≡ dot m nums x +ℤ (den *ℤ own) → all *ℤ p ≡ den *ℤ left_over_rows owners weights d all own (num products) m
key_scaled rows owners weights products d m x nums all den own p reduced are is =
    let s = weighted owners weights d (λ i. dot m (nums_at rows i) x) m in
    let same : weighted owners weights d (num products) m ≡ s = sum-same m _ _ (λ i l. ap (λ z. times_taken owners weights d i *ℤ z) (are i l)) in
    let first : all *ℤ dot m nums x ≡ den *ℤ (pos 0 -ℤ s) = reduced_product m _ nums x all den reduced ∙ ap (λ z. den *ℤ z) (less_rows_product rows owners weights d m m x) in
    ap (λ z. all *ℤ z) is ∙ (distribute_left (dot m nums x) (den *ℤ own) all ∙ (ap (λ z. z +ℤ (all *ℤ (den *ℤ own))) first
    ∙ (together s ∙ ap (λ z. den *ℤ ((all *ℤ own) -ℤ z)) (sym same))))
  where
    together : (s : ℤ) → (den *ℤ (pos 0 -ℤ s)) +ℤ (all *ℤ (den *ℤ own)) ≡ den *ℤ ((all *ℤ own) -ℤ s)
    together s = omega (arith, ints, minus_left (pos 0) s den, minus_left (all *ℤ own) s den, moved_out all den own)

-- so it is positive where that is
pub key_positive : (all den p q : ℤ) → pos 0 <ℤ all → pos 0 <ℤ den → all *ℤ p ≡ den *ℤ q → pos 0 <ℤ q → pos 0 <ℤ p
key_positive all den p q pa pd e pq = positive_cancel all p pa (subst (λ z. pos 0 <ℤ z) (sym e) (positive_product den q pd pq))
