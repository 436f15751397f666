-- of two roles, the one whose values, link entries and roles come first has the row that comes no later
use Rattle.std.proofs.Common.{◌≡◌, ℕ, ◌<◌, ◌+◌, ◌-◌, sym, ap, ◌∙◌, arith, inl, ⊎_elim, subst, ℤ, pos, ◌*ℤ◌, ◌<ℤ◌, ◌≤ℤ◌}
use Rattle.net_core.proofs.Library.{cases_lt, cases_eq, ints}
use Rattle.simplex_law.{specs.Terms.{dot, unit_vector, IsNoLater}, proofs.Lemmas.{unit-same, unit-other, over}}
use Rattle.key_law.{specs.Ties.{IsRoleFirst, ComesFirst, IsRoleRow}, proofs.Ties.{by_links, block_first, later_first}, proofs.Crossed.{less_again, same_again}}

module _ {links demands : ℕ} {keys : ℕ → ℕ → ℤ} {bound a : ℕ → ℤ}
    {role : ℕ} {x p : ℤ} {n : ℕ → ℤ} {r : ℤ} {t u : ℕ → ℤ} {d : ℤ} {full : ℕ → ℤ} (f : IsRoleRow links demands keys bound a role x p n r t u d full)
    {role' : ℕ} {y q : ℤ} {o : ℕ → ℤ} {s : ℤ} {t' v : ℕ → ℤ} {e : ℤ} {full' : ℕ → ℤ} (g : IsRoleRow links demands keys bound a role' y q o s t' v e full') where
  same_at : (k : ℕ) → k < links → n k *ℤ s ≡ o k *ℤ r → u k *ℤ q ≡ v k *ℤ p
  same_at k l h = same_again f.factor f.times g.factor g.times f.factor_positive f.times_positive g.factor_positive g.times_positive
      (u k) (n k) p r (v k) (o k) q s (f.numbers k l) f.pivot (g.numbers k l) g.pivot h

  less_at : (k : ℕ) → k < links → (n k *ℤ s) <ℤ (o k *ℤ r) → (u k *ℤ q) <ℤ (v k *ℤ p)
  less_at k l h = less_again f.factor f.times g.factor g.times f.factor_positive f.times_positive g.factor_positive g.times_positive
      (u k) (n k) p r (v k) (o k) q s (f.numbers k l) f.pivot (g.numbers k l) g.pivot h

  values : x *ℤ q ≡ y *ℤ p → dot (links + demands) full bound *ℤ q ≡ dot (links + demands) full' bound *ℤ p
  values h = ap (λ z. z *ℤ q) (sym f.value_is) ∙ (h ∙ ap (λ z. z *ℤ p) g.value_is)

  -- no row takes a negative number at a key
  target_high : (b : ℕ) → b < demands → pos 0 ≤ℤ t' b
  target_high b lb = ⊎_elim
      (λ block. subst (λ z. pos 0 ≤ℤ z) (sym (g.of_block block b lb)) (omega (arith, ints)))
      (λ ge. let c = role' - links in let is : role' ≡ links + c = omega (arith, ge) in
      subst (λ z. pos 0 ≤ℤ z) (sym (g.of_key c (omega (arith, ge, g.inside)) is b lb)) (⊎_elim
      (λ same. subst (λ z. pos 0 ≤ℤ unit_vector c z) same (subst (λ z. pos 0 ≤ℤ z) (sym (unit-same c)) (omega (arith, ints))))
      (λ ne. subst (λ z. pos 0 ≤ℤ z) (sym (unit-other c b ne)) (omega (arith, ints)))
      (cases_eq c b)))
      (cases_lt role' links)

  by_roles : x *ℤ q ≡ y *ℤ p → ((k : ℕ) → k < links → n k *ℤ s ≡ o k *ℤ r) → IsRoleFirst links role role' → IsNoLater (links + demands) bound full p full' q
  by_roles h all first = ⊎_elim
      (λ block. block_first bound f.spreads p g.spreads q (values h) (λ k l. same_at k l (all k l)) (f.of_block block) target_high f.positive g.over)
      (λ later.
      let b = role - links in let c = role' - links in
      let is_b : role ≡ links + b = omega (arith, later.0, later.1) in
      let is_c : role' ≡ links + c = omega (arith, later.0) in
      later_first bound f.spreads p g.spreads q (values h) (λ k l. same_at k l (all k l)) b c
      (omega (arith, later.0, later.1)) (omega (arith, later.0, later.1, f.inside))
      (f.of_key b (omega (arith, later.0, later.1, f.inside)) is_b) (g.of_key c (omega (arith, later.0, g.inside)) is_c) f.positive g.over)
      first

  pub comes_first : ComesFirst links x p y q n r o s role role' → IsNoLater (links + demands) bound full p full' q
  comes_first h = ⊎_elim
      (λ less. inl (over (dot (links + demands) full bound) (dot (links + demands) full' bound) p q
      (subst (λ z. (z *ℤ q) <ℤ (dot (links + demands) full' bound *ℤ p)) f.value_is (subst (λ z. (x *ℤ q) <ℤ (z *ℤ p)) g.value_is less))))
      (λ same. ⊎_elim
      (λ found. by_links bound f.spreads p g.spreads q (values same.0) found.0 found.1
      (λ k l. same_at k (omega (arith, l, found.1)) (found.2 k l)) (less_at found.0 found.1 found.3))
      (λ all. by_roles same.0 all.0 all.1)
      same.1)
      h
