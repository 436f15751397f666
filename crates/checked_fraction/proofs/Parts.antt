-- a wide number in two parts
use Rattle.std.proofs.Common.{◌≡◌, ℕ, ◌/◌, ◌%◌, ◌^◌, sym, ap, ◌∙◌, arith, ℤ, pos, ◌+ℤ◌, ◌-ℤ◌, ◌*ℤ◌}
use Rattle.net_core.proofs.Library.{ints}
use Rattle.checked_fraction.proofs.Products.{regroup, times_plus}

-- a times a size, by the parts of the size
parts : (a : ℤ) (size : ℕ) → ((a *ℤ pos (size / 2 ^ 62)) *ℤ pos (2 ^ 62)) +ℤ (a *ℤ pos (size % 2 ^ 62)) ≡ a *ℤ pos size
parts a size =
    let whole : pos size ≡ (pos (size / 2 ^ 62) *ℤ pos (2 ^ 62)) +ℤ pos (size % 2 ^ 62) = omega (arith, ints) in
    sym (ap (λ x. a *ℤ x) whole ∙ (times_plus a (pos (size / 2 ^ 62) *ℤ pos (2 ^ 62)) (pos (size % 2 ^ 62))
    ∙ ap (λ x. x +ℤ (a *ℤ pos (size % 2 ^ 62))) (sym (regroup a (pos (size / 2 ^ 62)) (pos (2 ^ 62))))))

module _ (a : ℤ) (size : ℕ) (p h l : ℤ) (is_p : p ≡ a *ℤ h) (is_h : h ≡ pos (size / 2 ^ 62)) (is_l : l ≡ pos (size % 2 ^ 62)) where
  both : (p *ℤ pos (2 ^ 62)) +ℤ (a *ℤ l) ≡ a *ℤ pos size
  both = ap (λ x. (x *ℤ pos (2 ^ 62)) +ℤ (a *ℤ l)) (is_p ∙ ap (λ x. a *ℤ x) is_h) ∙ (ap (λ x. ((a *ℤ pos (size / 2 ^ 62)) *ℤ pos (2 ^ 62)) +ℤ (a *ℤ x)) is_l ∙ parts a size)

  pub raised : (old new next : ℤ) (low low' : ℕ) → new ≡ old +ℤ p → low' ≡ low → next ≡ ((new *ℤ pos (2 ^ 62)) +ℤ pos low') +ℤ (a *ℤ l)
      → next ≡ ((old *ℤ pos (2 ^ 62)) +ℤ pos low) +ℤ (a *ℤ pos size)
  raised old new next low low' eh el e = e ∙ (ap (λ x. ((x *ℤ pos (2 ^ 62)) +ℤ pos low') +ℤ (a *ℤ l)) eh ∙ (ap (λ x. (((old +ℤ p) *ℤ pos (2 ^ 62)) +ℤ pos x) +ℤ (a *ℤ l)) el
      ∙ omega (arith, ints, both)))

  pub lowered : (old new next : ℤ) (low low' : ℕ) → new ≡ old -ℤ p → low' ≡ low → next ≡ ((new *ℤ pos (2 ^ 62)) +ℤ pos low') -ℤ (a *ℤ l)
      → next ≡ ((old *ℤ pos (2 ^ 62)) +ℤ pos low) -ℤ (a *ℤ pos size)
  lowered old new next low low' eh el e = e ∙ (ap (λ x. ((x *ℤ pos (2 ^ 62)) +ℤ pos low') -ℤ (a *ℤ l)) eh ∙ (ap (λ x. (((old -ℤ p) *ℤ pos (2 ^ 62)) +ℤ pos x) -ℤ (a *ℤ l)) el
      ∙ omega (arith, ints, both)))
