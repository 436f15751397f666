-- what a new key changes of products and values
use Rattle.std.proofs.Common.{◌≡◌, ◌≢◌, ℕ, ◌<◌, ◌+◌, refl, sym, ap, ◌∙◌, arith, ℤ, pos, ◌-ℤ◌, ◌*ℤ◌}
use Rattle.net_core.proofs.Library.{*ℤ-zero, *ℤ_comm, ints}
use Rattle.simplex_law.{specs.Terms.{int_sum, dot, unit_vector, ColumnOf}, proofs.Lemmas.{minus_left, moved_out, sum-same, sum-minus, sum-times, sum-one, dot-same, unit-other, unit-same}}
use Rattle.key_law.{specs.Keys.{difference, key_part, left_column}, specs.KeyRows.{key_nums, key_dot, HaveWeights}, specs.Kept.IsKept, proofs.Kept.{key_at_block, key_nums_product}, proofs.Owned.owned_difference}

module _ (links demands : ℕ) (keys others : ℕ → ℕ → ℤ) (d : ℕ) (ld : d < demands) (same : (e k : ℕ) → e < demands → e ≢ d → others e k ≡ keys e k) where
  -- where one key is new, a difference falls by the change of the key times the column's entry in its demand
  pub new_difference : (a : ℕ → ℤ) (k : ℕ) → difference links demands others a k ≡ difference links demands keys a k -ℤ (a (links + d) *ℤ (others d k -ℤ keys d k))
  new_difference a k =
      let changed : int_sum demands (λ e. (a (links + e) *ℤ others e k) -ℤ (a (links + e) *ℤ keys e k)) ≡ a (links + d) *ℤ (others d k -ℤ keys d k) =
      sum-one demands d _ (a (links + d) *ℤ (others d k -ℤ keys d k)) ld
      (λ e le ne. gone (ap (λ x. a (links + e) *ℤ x) (same e k le ne)))
      (sym (minus_left (others d k) (keys d k) (a (links + d)))) in
      take (a k) _ _ _ (sym (sum-minus demands (λ e. a (links + e) *ℤ others e k) (λ e. a (links + e) *ℤ keys e k)) ∙ changed)
    where
      gone : {x y : ℤ} → x ≡ y → x -ℤ y ≡ pos 0
      gone {x} {y} e = omega (arith, ints, e)

      take : (x s t u : ℤ) → s -ℤ t ≡ u → x -ℤ s ≡ (x -ℤ t) -ℤ u
      take x s t u e = omega (arith, ints, e)

  -- where one key is new, a difference's product with a row falls by that of the change of the key, times the column's entry in its demand
  pub new_product : (nums a : ℕ → ℤ)
      → dot links nums (difference links demands others a) ≡ dot links nums (difference links demands keys a) -ℤ (a (links + d) *ℤ dot links nums (λ k. others d k -ℤ keys d k))
  new_product nums a =
      sum-same links _ (λ k. (nums k *ℤ difference links demands keys a k) -ℤ (a (links + d) *ℤ (nums k *ℤ (others d k -ℤ keys d k))))
      (λ k l. ap (λ x. nums k *ℤ x) (new_difference a k) ∙ (minus_left (difference links demands keys a k) (a (links + d) *ℤ (others d k -ℤ keys d k)) (nums k)
      ∙ ap (λ x. (nums k *ℤ difference links demands keys a k) -ℤ x) (moved_out (nums k) (a (links + d)) (others d k -ℤ keys d k))))
      ∙ (sum-minus links (λ k. nums k *ℤ difference links demands keys a k) (λ k. a (links + d) *ℤ (nums k *ℤ (others d k -ℤ keys d k)))
      ∙ ap (λ x. dot links nums (difference links demands keys a) -ℤ x) (sum-times links (a (links + d)) (λ k. nums k *ℤ (others d k -ℤ keys d k))))

  -- where the new key is a column c of the demand, that is the product with what the old keys leave of c
  pub key_turn_product : (nums a c : ℕ → ℤ) → ((e : ℕ) → e < demands → c (links + e) ≡ unit_vector d e) → ((k : ℕ) → k < links → others d k ≡ c k)
      → dot links nums (difference links demands others a) ≡ dot links nums (difference links demands keys a) -ℤ (a (links + d) *ℤ dot links nums (difference links demands keys c))
  key_turn_product nums a c owned is = new_product nums a
      ∙ ap (λ x. dot links nums (difference links demands keys a) -ℤ (a (links + d) *ℤ x))
      (dot-same links nums nums _ _ (λ k l. refl) (λ k l. ap (λ x. x -ℤ keys d k) (is k l) ∙ sym (owned_difference links demands keys c d ld owned k)))

module _ {N : Type 0} {links demands : ℕ} {bound : ℕ → ℤ} {basis : ℕ → ColumnOf N} {place role : ℕ → ℕ} {kept : ℕ → ℕ → ℤ} {den prices : ℕ → ℤ} {prices_den : ℤ}
    (h : IsKept links demands bound basis place role kept den prices prices_den) (i d : ℕ) (li : i < links) (ld : d < demands)
    (owned : (e : ℕ) → e < demands → (basis (place i)).entry (links + e) ≡ unit_vector d e)
    (others : ℕ → ℕ → ℤ) (is : (k : ℕ) → others d k ≡ (basis (place i)).entry k) (same : (e k : ℕ) → e < demands → e ≢ d → others e k ≡ key_part links demands basis place e k) where
  -- where a column of the block becomes key, the products and the values of the other rows stay
  pub exchange_product : (j : ℕ) (a : ℕ → ℤ) → j < links → j ≢ i → dot links (kept j) (difference links demands others a) ≡ dot links (kept j) (left_column links demands basis place a)
  exchange_product j a lj ne =
      key_turn_product links demands (key_part links demands basis place) others d ld same (kept j) a ((basis (place i)).entry) owned (λ k l. is k)
      ∙ nothing (a (links + d)) (h.rows j i lj li ∙ (ap (λ x. den j *ℤ x) (unit-other j i ne) ∙ *ℤ-zero (den j)))
    where
      nothing : (b : ℤ) {x z : ℤ} → z ≡ pos 0 → x -ℤ (b *ℤ z) ≡ x
      nothing b {x} {z} e = ap (λ y. x -ℤ (b *ℤ y)) e ∙ (ap (λ y. x -ℤ y) (*ℤ-zero b) ∙ omega (arith, ints))

  -- and the old key's row has the products and the value that it had as a key's
  pub exchange_key_product : (weight : ℕ → ℤ) (all : ℤ) (a : ℕ → ℤ) → HaveWeights links demands basis place den weight d all
      → dot links (key_nums links demands basis place kept weight d) (difference links demands others a) ≡ key_dot links demands basis place kept weight all d a
  exchange_key_product weight all a weights =
      key_turn_product links demands (key_part links demands basis place) others d ld same (key_nums links demands basis place kept weight d) a ((basis (place i)).entry) owned (λ k l. is k)
      ∙ together (a (links + d)) _ _ _ (key_nums_product links demands basis place role h.roles h.keys kept den weight all (λ j lj k lk. h.rows j k lj lk) d (left_column links demands basis place a))
      (key_at_block links demands basis place role h.roles h.keys kept den weight all (λ j lj k lk. h.rows j k lj lk) d i weights li
      ∙ (ap (λ x. pos 0 -ℤ (x *ℤ all)) (owned d ld ∙ unit-same d) ∙ once))
    where
      once : pos 0 -ℤ (pos 1 *ℤ all) ≡ pos 0 -ℤ all
      once = omega (arith, ints)

      together : (b x y s : ℤ) → x ≡ pos 0 -ℤ s → y ≡ pos 0 -ℤ all → x -ℤ (b *ℤ y) ≡ (all *ℤ b) -ℤ s
      together b x y s e f =
          let g : b *ℤ y ≡ (b *ℤ pos 0) -ℤ (b *ℤ all) = ap (λ z. b *ℤ z) f ∙ minus_left (pos 0) all b in
          omega (arith, ints, e, g, *ℤ-zero b, *ℤ_comm all b)
