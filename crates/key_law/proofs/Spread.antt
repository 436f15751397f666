-- the product of a spread row with a column, and its lowest terms
use Rattle.std.proofs.Common.{◌≡◌, ℕ, ◌<◌, ◌+◌, ◌-◌, refl, sym, ap, ◌∙◌, arith, cond, subst, unsigned_abs, lt-ltb, le-ltb, ℤ, ◌+ℤ◌, ◌-ℤ◌, ◌*ℤ◌}
use Rattle.net_core.proofs.Library.{◌∣◌, *ℤ_comm, ints}
use Rattle.checked_fraction.{specs.Terms.IsInLowestTerms, proofs.Products.regroup}
use Rattle.simplex_law.{specs.Terms.{int_sum, dot, unit_vector}, proofs.Lemmas.{distribute_minus, minus_left, sum-split, sum-minus, sum-times, sum-same, dot-same, sum-unit, priced}}
use Rattle.key_law.specs.Keys.{difference, IsSpread, spread}

module _ (links demands : ℕ) (keys : ℕ → ℕ → ℤ) where
  -- the product with a difference, from the products with the column and the keys
  pub dot-difference : (nums a : ℕ → ℤ) → dot links nums (difference links demands keys a)
      ≡ dot links nums a -ℤ int_sum demands (λ d. a (links + d) *ℤ dot links nums (keys d))
  dot-difference nums a =
      sum-same links _ (λ k. (nums k *ℤ a k) -ℤ (nums k *ℤ int_sum demands (λ d. a (links + d) *ℤ keys d k))) (λ k l. minus_left (a k) (int_sum demands (λ d. a (links + d) *ℤ keys d k)) (nums k))
      ∙ (sum-minus links (λ k. nums k *ℤ a k) (λ k. nums k *ℤ int_sum demands (λ d. a (links + d) *ℤ keys d k))
      ∙ ap (λ s. dot links nums a -ℤ s) (sym (priced demands links (λ d. a (links + d)) nums keys)))

  -- the product of a spread row with a column is that of its link entries with the difference, and den times what it takes at the keys
  pub dot-spread : (key_target nums : ℕ → ℤ) (den : ℤ) (full a : ℕ → ℤ) → IsSpread links demands keys key_target nums den full
      → dot (links + demands) full a ≡ dot links nums (difference links demands keys a) +ℤ (den *ℤ int_sum demands (λ d. a (links + d) *ℤ key_target d))
  dot-spread key_target nums den full a s =
      let split = sum-split links demands (λ k. full k *ℤ a k) in
      let first : int_sum links (λ k. full k *ℤ a k) ≡ dot links nums a = dot-same links full nums a a s.link (λ k l. refl) in
      let last : int_sum demands (λ d. full (links + d) *ℤ a (links + d))
      ≡ (den *ℤ int_sum demands (λ d. a (links + d) *ℤ key_target d)) -ℤ int_sum demands (λ d. a (links + d) *ℤ dot links nums (keys d)) =
      sum-same demands _ (λ d. (den *ℤ (a (links + d) *ℤ key_target d)) -ℤ (a (links + d) *ℤ dot links nums (keys d)))
      (λ d l. ap (λ x. x *ℤ a (links + d)) (s.demand d l) ∙ term den (key_target d) (dot links nums (keys d)) (a (links + d)))
      ∙ (sum-minus demands (λ d. den *ℤ (a (links + d) *ℤ key_target d)) (λ d. a (links + d) *ℤ dot links nums (keys d))
      ∙ ap (λ x. x -ℤ int_sum demands (λ d. a (links + d) *ℤ dot links nums (keys d))) (sum-times demands den (λ d. a (links + d) *ℤ key_target d))) in
      omega (arith, ints, split, first, last, dot-difference nums a)
    where
      term : (den t x a : ℤ) → ((den *ℤ t) -ℤ x) *ℤ a ≡ (den *ℤ (a *ℤ t)) -ℤ (a *ℤ x)
      term den t x a = distribute_minus (den *ℤ t) x a ∙ omega (arith, ints, regroup den t a, ap (λ s. den *ℤ s) (*ℤ_comm t a), *ℤ_comm x a)

  -- the spread row is one
  pub is_spread : (key_target nums : ℕ → ℤ) (den : ℤ) → IsSpread links demands keys key_target nums den (spread links keys key_target nums den)
  is_spread key_target nums den = record {
    link = λ k l. ap (λ t. cond t (nums k) ((den *ℤ key_target (k - links)) -ℤ dot links nums (keys (k - links)))) (lt-ltb k links l);
    demand = λ d l.
        ap (λ t. cond t (nums (links + d)) ((den *ℤ key_target ((links + d) - links)) -ℤ dot links nums (keys ((links + d) - links)))) (le-ltb (links + d) links (omega arith))
        ∙ ap (λ e. (den *ℤ key_target e) -ℤ dot links nums (keys e)) (back links d);
  }
    where
      back : (links d : ℕ) → (links + d) - links ≡ d
      back links d = omega arith

  -- a row that takes the keys' targets is spread
  pub spread_of : (columns : ℕ → ℕ → ℤ) (key_target full : ℕ → ℤ) (den : ℤ)
      → ((d e : ℕ) → d < demands → e < demands → columns d (links + e) ≡ unit_vector d e)
      → ((d : ℕ) → d < demands → dot (links + demands) full (columns d) ≡ den *ℤ key_target d)
      → IsSpread links demands columns key_target full den full
  spread_of columns key_target full den are takes = record {
    link = λ k l. refl;
    demand = λ d l.
        let split = sum-split links demands (λ k. full k *ℤ columns d k) in
        let one : int_sum demands (λ e. full (links + e) *ℤ columns d (links + e)) ≡ full (links + d) =
        sum-same demands _ (λ e. full (links + e) *ℤ unit_vector d e) (λ e le. ap (λ x. full (links + e) *ℤ x) (are d e l le)) ∙ sum-unit demands d (λ e. full (links + e)) l in
        omega (arith, ints, split, one, takes d l);
  }

-- what is in lowest terms in the rows of links is so in all rows
pub full_lowest : (links demands : ℕ) (keys : ℕ → ℕ → ℤ) (t nums : ℕ → ℤ) (den : ℤ) (full : ℕ → ℤ) → IsSpread links demands keys t nums den full → IsInLowestTerms links nums den
    → IsInLowestTerms (links + demands) full den
full_lowest links demands keys t nums den full s low d of_den of_nums = low d of_den (λ k l. subst (λ x. d ∣ unsigned_abs x) (s.link k l) (of_nums k (omega (arith, l))))
