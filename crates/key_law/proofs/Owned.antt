-- what the keys leave of a column of one demand, and of none
use Rattle.std.proofs.Common.{◌≡◌, ◌≢◌, ℕ, ◌<◌, ◌+◌, ap, ◌∙◌, arith, ℤ, pos, ◌-ℤ◌, ◌*ℤ◌}
use Rattle.net_core.proofs.Library.{*ℤ_comm, zero-*ℤ, ints}
use Rattle.simplex_law.{specs.Terms.{int_sum, dot, unit_vector}, proofs.Lemmas.{minus_left, sum-same, sum-none, sum-unit, sum-minus, unit-other}}
use Rattle.key_law.specs.Keys.{difference, left_target}

module _ (links demands : ℕ) (keys : ℕ → ℕ → ℤ) (a : ℕ → ℤ) where
  module _ (d : ℕ) (ld : d < demands) (owned : (e : ℕ) → e < demands → a (links + e) ≡ unit_vector d e) where
    own_sum : (f : ℕ → ℤ) → int_sum demands (λ e. a (links + e) *ℤ f e) ≡ f d
    own_sum f = sum-same demands _ (λ e. f e *ℤ unit_vector d e) (λ e l. ap (λ x. x *ℤ f e) (owned e l) ∙ *ℤ_comm (unit_vector d e) (f e)) ∙ sum-unit demands d f ld

    -- what the keys leave of a column of a demand is the column less the demand's key
    pub owned_difference : (k : ℕ) → difference links demands keys a k ≡ a k -ℤ keys d k
    owned_difference k = ap (λ s. a k -ℤ s) (own_sum (λ e. keys e k))

    pub owned_target : (key_target : ℕ → ℤ) (target : ℤ) → left_target links demands key_target a target ≡ target -ℤ key_target d
    owned_target key_target target = ap (λ s. target -ℤ s) (own_sum key_target)

    -- so its product with a row is a difference of two products
    pub owned_product : (nums : ℕ → ℤ) → dot links nums (difference links demands keys a) ≡ dot links nums a -ℤ dot links nums (keys d)
    owned_product nums = sum-same links _ (λ k. (nums k *ℤ a k) -ℤ (nums k *ℤ keys d k)) (λ k l. ap (λ x. nums k *ℤ x) (owned_difference k) ∙ minus_left (a k) (keys d k) (nums k))
        ∙ sum-minus links (λ k. nums k *ℤ a k) (λ k. nums k *ℤ keys d k)

    -- the column has no entry in another demand
    pub owned_apart : (e : ℕ) → e < demands → d ≢ e → a (links + e) ≡ pos 0
    owned_apart e l ne = owned e l ∙ unit-other d e ne

  module _ (free : (e : ℕ) → e < demands → a (links + e) ≡ pos 0) where
    no_sum : (f : ℕ → ℤ) → int_sum demands (λ e. a (links + e) *ℤ f e) ≡ pos 0
    no_sum f = sum-same demands _ (λ e. pos 0) (λ e l. ap (λ x. x *ℤ f e) (free e l) ∙ zero-*ℤ (f e)) ∙ sum-none demands

    -- the keys leave a column of no demand as it is
    pub free_difference : (k : ℕ) → difference links demands keys a k ≡ a k
    free_difference k = ap (λ s. a k -ℤ s) (no_sum (λ e. keys e k)) ∙ plain (a k)
      where
        plain : (x : ℤ) → x -ℤ pos 0 ≡ x
        plain x = omega (arith, ints)

    pub free_target : (key_target : ℕ → ℤ) (target : ℤ) → left_target links demands key_target a target ≡ target
    free_target key_target target = ap (λ s. target -ℤ s) (no_sum key_target) ∙ plain target
      where
        plain : (x : ℤ) → x -ℤ pos 0 ≡ x
        plain x = omega (arith, ints)
