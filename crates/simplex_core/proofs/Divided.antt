-- rows combined by factors that have a common divisor, and without it
use Rattle.std.proofs.Common.{◌≡◌, ℕ, ◌<◌, ◌^◌, List, length, None, pos, sym, ◌∙◌, subst, arith, ℤ, ◌*ℤ◌, ◌<ℤ◌}
use Rattle.checked_fraction.{specs.Terms.{num, IsReduced, combined}, proofs.Products.{mixed_times, moved, regroup}, proofs.Reduced.scaled}
use Rattle.simplex_core.{specs.inner.Factors.AreFactorsOf, specs.Turned.{HavePivot, FindsWideProduct}, specs.declared.factors.Factors.Factors}

-- combining by factors gives the row that combining by these without their common divisor gives
pub factored : (n : ℕ) (u w : ℕ → ℤ) (p q whole : ℤ) (f : Factors) (nums : ℕ → ℤ) (den : ℤ) → AreFactorsOf p q f
    → IsReduced n (combined u f.p w f.q) (whole *ℤ f.q) nums den → IsReduced n (combined u p w q) (whole *ℤ q) nums den
factored n u w p q whole f nums den t h =
    subst (λ x. IsReduced n (combined u x w q) (whole *ℤ q) nums den) (sym t.2)
    (subst (λ x. IsReduced n (combined u (pos t.0 *ℤ f.p) w x) (whole *ℤ x) nums den) (sym t.3)
    (scaled n t.0 (combined u (pos t.0 *ℤ f.p) w (pos t.0 *ℤ f.q)) (combined u f.p w f.q) (whole *ℤ (pos t.0 *ℤ f.q)) (whole *ℤ f.q) nums den
    (λ k l. mixed_times (pos t.0) (u k) f.q f.p (w k)) (outside whole (pos t.0) f.q) h))
  where
    outside : (x d y : ℤ) → x *ℤ (d *ℤ y) ≡ d *ℤ (x *ℤ y)
    outside x d y = moved d x y ∙ regroup d x y

-- products of which none stays wide have a pivot
pub has_pivot : (products items : List ℤ) (cost : ℤ) (n r : ℕ) → items ≡ products → length products ≡ n → n < 2 ^ 32 → r < n → pos 0 <ℤ num products r → FindsWideProduct items cost r None → HavePivot products n r
has_pivot products items cost n r same count short inside positive none =
    let all = subst (λ xs. FindsWideProduct xs cost r None) same none in
    record {
      count = count;
      short = short;
      inside = inside;
      positive = positive;
      narrow = all.0;
      over = λ k l. all.2 k (omega (arith, count, l));
    }
