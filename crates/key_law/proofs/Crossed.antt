-- cross products compare as those of numbers in proportion to theirs do
use Rattle.std.proofs.Common.{◌≡◌, sym, ap, ◌∙◌, subst, ℤ, pos, ◌*ℤ◌, ◌<ℤ◌}
use Rattle.net_core.proofs.Library.{*ℤ_comm}
use Rattle.simplex_law.proofs.Lemmas.{moved_out, times_less, lt_cancel}
use Rattle.checked_fraction.proofs.Products.{regroup, positive_product, cancelled}

-- the product of u and p is to that of n and r as d times g is to e times f
crossed : (e d u n f g p r : ℤ) → e *ℤ u ≡ d *ℤ n → f *ℤ p ≡ g *ℤ r → (e *ℤ f) *ℤ (u *ℤ p) ≡ (d *ℤ g) *ℤ (n *ℤ r)
crossed e d u n f g p r eu fp = pairs e f u p ∙ (ap (λ x. x *ℤ (f *ℤ p)) eu ∙ (ap (λ x. (d *ℤ n) *ℤ x) fp ∙ sym (pairs d g n r)))
  where
    pairs : (a b c x : ℤ) → (a *ℤ b) *ℤ (c *ℤ x) ≡ (a *ℤ c) *ℤ (b *ℤ x)
    pairs a b c x = regroup a b (c *ℤ x) ∙ (ap (λ y. a *ℤ y) (moved_out b c x) ∙ sym (regroup a c (b *ℤ x)))

module _ (e d f g : ℤ) (pe : pos 0 <ℤ e) (pd : pos 0 <ℤ d) (pf : pos 0 <ℤ f) (pg : pos 0 <ℤ g) (u n p r v o q s : ℤ)
    (first : e *ℤ u ≡ d *ℤ n) (first_product : e *ℤ p ≡ d *ℤ r) (second : f *ℤ v ≡ g *ℤ o) (second_product : f *ℤ q ≡ g *ℤ s) where
  left : (e *ℤ f) *ℤ (u *ℤ q) ≡ (d *ℤ g) *ℤ (n *ℤ s)
  left = crossed e d u n f g q s first second_product

  right : (e *ℤ f) *ℤ (v *ℤ p) ≡ (d *ℤ g) *ℤ (o *ℤ r)
  right = ap (λ x. x *ℤ (v *ℤ p)) (*ℤ_comm e f) ∙ (crossed f g v o e d p r second first_product ∙ ap (λ x. x *ℤ (o *ℤ r)) (*ℤ_comm g d))

  pub less_again : (n *ℤ s) <ℤ (o *ℤ r) → (u *ℤ q) <ℤ (v *ℤ p)
  less_again l = lt_cancel (e *ℤ f) (u *ℤ q) (v *ℤ p) (positive_product e f pe pf)
      (subst (λ x. x <ℤ ((e *ℤ f) *ℤ (v *ℤ p))) (sym left) (subst (λ x. ((d *ℤ g) *ℤ (n *ℤ s)) <ℤ x) (sym right) (times_less (d *ℤ g) (n *ℤ s) (o *ℤ r) (positive_product d g pd pg) l)))

  pub same_again : n *ℤ s ≡ o *ℤ r → u *ℤ q ≡ v *ℤ p
  same_again e' = cancelled (e *ℤ f) (u *ℤ q) (v *ℤ p) (positive_product e f pe pf) (left ∙ (ap (λ x. (d *ℤ g) *ℤ x) e' ∙ sym right))
