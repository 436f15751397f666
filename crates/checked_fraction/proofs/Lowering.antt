-- rows of given numbers in lowest terms
use Rattle.std.proofs.Common.{◌≡◌, ℕ, ℤ, pos, ◌<◌, ◌/◌, unsigned_abs, refl, arith, inl, ◌<ℤ◌}
use Rattle.net_core.proofs.Library.{ints}
use Rattle.checked_fraction.{specs.Rows.IsReduced, specs.Mixed.IsTooWide, specs.inner.Passes.{over, IsRowGcd, IsFirstOver}, specs.declared.wide.WideNumber.WideNumber, proofs.Reduced.made}

module _ (f : ℕ → ℤ) (n : ℕ) (whole : ℤ) (size g : ℕ) (positive : pos 0 <ℤ whole) (is : size ≡ unsigned_abs whole) (row : IsRowGcd f n size g) where
  is_whole : pos size ≡ whole
  is_whole = omega (arith, ints, positive, is)

  some : 0 < size
  some = omega (arith, ints, positive, is)

  -- numbers divided by the greatest common divisor
  pub lowered : (nums : ℕ → ℤ) → ((k : ℕ) → k < n → nums k ≡ over f g k) → IsReduced n f whole nums (pos (size / g))
  lowered nums each = made f n size g nums whole some row each is_whole

  -- one of which is wide
  pub too_wide : (wide : WideNumber) → IsFirstOver (over f g) n wide → IsTooWide n f whole wide
  too_wide wide h = (over f g, pos (size / g), lowered (over f g) (λ k l. refl), record { is_wide = h.is_wide; stands = inl (h.inside, h.value); first = h.before })
