-- rows put beside each other, and sums over them
use Rattle.std.proofs.Common.{◌≡◌, ℕ, zero, suc, ◌+◌, ◌-◌, ◌<◌, ◌≤◌, cond, sym, ap, ◌∙◌, arith, subst, refl, ⊎_elim, pos, lt-ltb, le-ltb}
use Rattle.net_core.proofs.Library.{ints, cases_lt, below-none, below-plus}
use Rattle.plan_terms.specs.Terms.{sum_below}
use Rattle.simplex_law.specs.Terms.{int_sum}
use Rattle.route_law.specs.RoutingPrograms.{beside}

pub beside_first : {X : Type 0} (n : ℕ) (f g : ℕ → X) (k : ℕ) → k < n → beside n f g k ≡ f k
beside_first n f g k l = ap (λ t. cond t (f k) (g (k - n))) (lt-ltb k n l)

pub beside_second : {X : Type 0} (n : ℕ) (f g : ℕ → X) (k : ℕ) → n ≤ k → beside n f g k ≡ g (k - n)
beside_second n f g k l = ap (λ t. cond t (f k) (g (k - n))) (le-ltb k n l)

left_of : (n i : ℕ) → n + i - n ≡ i
left_of n i = omega arith

-- row i of the second part
pub beside_after : {X : Type 0} (n : ℕ) (f g : ℕ → X) (i : ℕ) → beside n f g (n + i) ≡ g i
beside_after n f g i = beside_second n f g (n + i) (omega arith) ∙ ap g (left_of n i)

-- what holds of both parts holds of the whole
pub beside_each : {X : Type 0} (P : X → Type 0) (n : ℕ) (f g : ℕ → X) (k : ℕ) → (k < n → P (f k)) → (n ≤ k → P (g (k - n))) → P (beside n f g k)
beside_each P n f g k first second = ⊎_elim
    (λ l. subst P (sym (beside_first n f g k l)) (first l))
    (λ l. subst P (sym (beside_second n f g k l)) (second l))
    (cases_lt k n)

-- a sum of natural numbers
pub sum-pos : (m : ℕ) (f : ℕ → ℕ) → int_sum m (λ k. pos (f k)) ≡ pos (sum_below m f)
sum-pos zero f = refl
sum-pos (suc m) f = omega (arith, ints, sum-pos m f)

-- a sum of sums, in either order
pub below-both : (m n : ℕ) (f : ℕ → ℕ → ℕ) → sum_below m (λ e. sum_below n (f e)) ≡ sum_below n (λ j. sum_below m (λ e. f e j))
below-both zero n f = sym (below-none n)
below-both (suc m) n f = omega (arith, below-both m n f, below-plus n (λ j. sum_below m (λ e. f e j)) (f m))
