-- weak duality, and columns that fill the rows
use Rattle.std.proofs.Common.{◌≡◌, ℕ, ◌<◌, sym, ap, ◌∙◌, arith, ℤ, ◌*ℤ◌}
use Rattle.net_core.proofs.Library.{ints}
use Rattle.simplex_law.{specs.Sums.{int_sum, dot}, specs.Optima.PackingDuality, proofs.Arithmetic.{moved_out, le_times}, proofs.Sums.{sum-times, sum-same, sum-swapped, sum-le}}

-- amounts x of columns, priced by y, in either order
pub priced : (n m : ℕ) (x y : ℕ → ℤ) (entry : ℕ → ℕ → ℤ) → int_sum n (λ c. x c *ℤ dot m y (entry c)) ≡ int_sum m (λ k. y k *ℤ int_sum n (λ c. x c *ℤ entry c k))
priced n m x y entry =
    sum-same n _ (λ c. int_sum m (λ k. y k *ℤ (x c *ℤ entry c k)))
    (λ c l. sym (sum-times m (x c) (λ k. y k *ℤ entry c k)) ∙ sum-same m _ _ (λ k h. moved_out (x c) (y k) (entry c k)))
    ∙ (sum-swapped n m (λ c k. y k *ℤ (x c *ℤ entry c k))
    ∙ sum-same m _ _ (λ k h. sum-times n (y k) (λ c. x c *ℤ entry c k)))

pub packing_duality : PackingDuality
packing_duality n m entry gain b x y scale den fits prices =
    let one : den *ℤ int_sum n (λ c. x c *ℤ gain c) ≡ int_sum n (λ c. x c *ℤ (den *ℤ gain c)) =
    sym (sum-times n den (λ c. x c *ℤ gain c)) ∙ sum-same n _ _ (λ c l. moved_out den (x c) (gain c)) in
    let two = sum-le n (λ c. x c *ℤ (den *ℤ gain c)) (λ c. x c *ℤ dot m y (entry c)) (λ c l. le_times (x c) _ _ (fits.amounts_positive c l) (prices.none c l)) in
    let three = priced n m x y entry in
    let four = sum-le m (λ k. y k *ℤ int_sum n (λ c. x c *ℤ entry c k)) (λ k. y k *ℤ (scale *ℤ b k)) (λ k l. le_times (y k) _ _ (prices.duals_positive k l) (fits.within k l)) in
    let five : int_sum m (λ k. y k *ℤ (scale *ℤ b k)) ≡ scale *ℤ dot m y b =
    sum-same m _ _ (λ k l. moved_out (y k) scale (b k)) ∙ sum-times m scale (λ k. y k *ℤ b k) in
    omega (arith, ints, one, two, three, four, five)

-- values that fill the rows gain what the bounds are worth
pub equal_value : (m : ℕ) (x gain y b : ℕ → ℤ) (basic : ℕ → ℕ → ℤ) (den scale : ℤ)
    → ((j : ℕ) → j < m → dot m y (basic j) ≡ den *ℤ gain j)
    → ((k : ℕ) → k < m → int_sum m (λ j. x j *ℤ basic j k) ≡ scale *ℤ b k)
    → den *ℤ int_sum m (λ j. x j *ℤ gain j) ≡ scale *ℤ dot m y b
equal_value m x gain y b basic den scale duals fills =
    sym (sum-times m den (λ j. x j *ℤ gain j))
    ∙ (sum-same m _ (λ j. x j *ℤ dot m y (basic j)) (λ j l. moved_out den (x j) (gain j) ∙ ap (λ s. x j *ℤ s) (sym (duals j l)))
    ∙ (priced m m x y basic
    ∙ (sum-same m _ (λ k. scale *ℤ (y k *ℤ b k)) (λ k l. ap (λ s. y k *ℤ s) (fills k l) ∙ moved_out (y k) scale (b k))
    ∙ sum-times m scale (λ k. y k *ℤ b k))))
