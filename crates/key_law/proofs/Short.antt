-- among rows of the block the kept rows decide: they are ordered by their values and link entries as whole rows are
use Rattle.std.proofs.Common.{◌≡◌, ℕ, zero, suc, ◌<◌, ◌+◌, sym, ap, ◌∙◌, arith, subst, ℤ, pos, ◌-ℤ◌, ◌*ℤ◌}
use Rattle.net_core.proofs.Library.{*ℤ-zero, ints}
use Rattle.checked_fraction.specs.Terms.{combined}
use Rattle.simplex_law.{specs.Terms.{dot, ColumnOf, IsLexNonneg, valued, IsNoLater}, proofs.Lemmas.{distribute_minus, minus_left, lex_more, dot-none, dot-combined}}
use Rattle.key_law.{specs.Keys.{IsSpread, AreRoles, AreKeys, key_part, left_column}, specs.KeyRows.full_kept, proofs.Spread.is_spread, proofs.Kept.kept_product}

module _ {N : Type 0} (links demands : ℕ) (basis : ℕ → ColumnOf N) (place role : ℕ → ℕ) (roles : AreRoles (links + demands) place role) (keys_are : AreKeys links demands basis place) (bound : ℕ → ℤ) where
  pub short_no_later : (u : ℕ → ℤ) (d p : ℤ) (v : ℕ → ℤ) (e q : ℤ) → IsNoLater links (left_column links demands basis place bound) u p v q
      → IsNoLater (links + demands) bound (full_kept links demands basis place u d) p (full_kept links demands basis place v e) q
  short_no_later u d p v e q h = subst (λ n. IsLexNonneg n (combined (valued (links + demands) bound (full_kept links demands basis place v e)) q (valued (links + demands) bound (full_kept links demands basis place u d)) p)) (one_front links demands)
      (lex_more (suc links) demands
      (combined (valued links (left_column links demands basis place bound) v) q (valued links (left_column links demands basis place bound) u) p)
      (combined (valued (links + demands) bound (full_kept links demands basis place v e)) q (valued (links + demands) bound (full_kept links demands basis place u d)) p)
      same rest h)
    where
      one_front : (n r : ℕ) → suc n + r ≡ suc (n + r)
      one_front n r = omega arith

      first : IsSpread links demands (key_part links demands basis place) (λ f. pos 0) u d (full_kept links demands basis place u d)
      first = is_spread links demands (key_part links demands basis place) (λ f. pos 0) u d

      second : IsSpread links demands (key_part links demands basis place) (λ f. pos 0) v e (full_kept links demands basis place v e)
      second = is_spread links demands (key_part links demands basis place) (λ f. pos 0) v e

      mix : {a b x y : ℤ} → a ≡ x → b ≡ y → (a *ℤ p) -ℤ (q *ℤ b) ≡ (x *ℤ p) -ℤ (q *ℤ y)
      mix {a} {b} {x} {y} ea eb = ap (λ z. (z *ℤ p) -ℤ (q *ℤ b)) ea ∙ ap (λ z. (x *ℤ p) -ℤ (q *ℤ z)) eb

      same : (k : ℕ) → k < suc links
          → combined (valued links (left_column links demands basis place bound) v) q (valued links (left_column links demands basis place bound) u) p k
          ≡ combined (valued (links + demands) bound (full_kept links demands basis place v e)) q (valued (links + demands) bound (full_kept links demands basis place u d)) p k
      same zero l = mix (sym (kept_product links demands basis place role roles keys_are v e bound)) (sym (kept_product links demands basis place role roles keys_are u d bound))
      same (suc k) l = mix (sym (second.link k (omega (arith, l)))) (sym (first.link k (omega (arith, l))))

      rest : ((k : ℕ) → k < suc links → combined (valued links (left_column links demands basis place bound) v) q (valued links (left_column links demands basis place bound) u) p k ≡ pos 0)
          → (f : ℕ) → f < demands → combined (valued (links + demands) bound (full_kept links demands basis place v e)) q (valued (links + demands) bound (full_kept links demands basis place u d)) p (suc links + f) ≡ pos 0
      rest none f l = subst (λ m. combined (valued (links + demands) bound (full_kept links demands basis place v e)) q (valued (links + demands) bound (full_kept links demands basis place u d)) p m ≡ pos 0) (suc_first links f)
          (mix (second.demand f l) (first.demand f l) ∙ gone (dot links v (key_part links demands basis place f)) (dot links u (key_part links demands basis place f))
          (sym (dot-combined links v u (key_part links demands basis place f) q p) ∙ dot-none links (combined v q u p) (key_part links demands basis place f) (λ k lk. none (suc k) (omega (arith, lk)))))
        where
          suc_first : (n r : ℕ) → suc (n + r) ≡ suc n + r
          suc_first n r = omega arith

          gone : (x y : ℤ) → (x *ℤ p) -ℤ (q *ℤ y) ≡ pos 0 → (((e *ℤ pos 0) -ℤ x) *ℤ p) -ℤ (q *ℤ ((d *ℤ pos 0) -ℤ y)) ≡ pos 0
          gone x y z =
              let a : ((e *ℤ pos 0) -ℤ x) *ℤ p ≡ pos 0 -ℤ (x *ℤ p) = ap (λ w. (w -ℤ x) *ℤ p) (*ℤ-zero e) ∙ (distribute_minus (pos 0) x p ∙ omega (arith, ints)) in
              let b : q *ℤ ((d *ℤ pos 0) -ℤ y) ≡ pos 0 -ℤ (q *ℤ y) = ap (λ w. q *ℤ (w -ℤ y)) (*ℤ-zero d) ∙ (minus_left (pos 0) y q ∙ omega (arith, ints)) in
              omega (arith, ints, a, b, z)
