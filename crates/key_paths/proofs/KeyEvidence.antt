-- what is too wide of a key's row, as evidence of the whole basis
use Rattle.std.proofs.Common.{◌≡◌, ℕ, List, true, false, pos, length, get_or, cond, eqb, ◌<◌, ◌≤◌, ◌+◌, ◌^◌, sym, ap, ◌∙◌, subst, arith, ⊎_elim, unsigned_abs, ℤ, ◌-ℤ◌, ◌*ℤ◌}
use Rattle.net_core.proofs.Library.{one-dvd, ◌∣◌}
use Rattle.checked_fraction.specs.Terms.{num, IsTooWide}
use Rattle.plan_terms.specs.Terms.{RouteColumn}
use Rattle.simplex_law.{specs.Terms.{HoldsRow, HoldsCommon, ColumnOf}, proofs.Lemmas.sum-same}
use Rattle.simplex_core.specs.Terms.{nums_at, den_at}
use Rattle.key_law.{specs.Terms.key_nums, proofs.Lemmas.{wide_block_common, wide_key_row, wide_key_number}}
use Rattle.key_rows.{specs.Terms.{IsKeyed, less_rows, IsWideSpread}, specs.declared.key_row.WideKey.WideKey, specs.declared.key_row.WideKey.TheVariants.{Common, Row as RowOf}, specs.declared.keyed.Keyed.Keyed, proofs.Columns.{times_are, have_weights}}
use Rattle.key_paths.specs.inner.Outcomes.{wide_spread, HoldsWide}

module _ {links demands : ℕ} {bound : ℕ → ℤ} {basis : ℕ → ColumnOf RouteColumn} {place role : ℕ → ℕ} {b : Keyed} (h : IsKeyed links demands bound basis place role b)
    (is_column : ColumnOf RouteColumn → Type 0) (d : ℕ) (ld : d < demands) where
  -- a demand's rows have no common denominator that is narrow
  pub spread_common : IsWideSpread b d Common → HoldsCommon (links + demands) basis
  spread_common wide =
      wide_block_common is_column h.kept wide.0
      (λ multiple all. wide.2 multiple (λ i l. elim (eqb (get_or b.owners i 0) d) as (λ t. cond t (unsigned_abs (den_at b.rows i)) 1 ∣ multiple) [
        | true ↦ all i (omega (arith, l, h.shaped.rows))
        | false ↦ one-dvd multiple
      ]))
      wide.1

  -- the row of its key is too wide
  pub spread_row : IsWideSpread b d RowOf → HoldsRow (links + demands) basis (place (links + d))
  spread_row wide =
      let weights = wide.0 in
      let all = wide.1 in
      let are = wide.2 in
      let have = have_weights h weights all d ld are in
      ⊎_elim
      (λ f. wide_key_number is_column h.kept (num weights) all d ld are.positive have f.0 (omega (arith, f.1, h.shaped.rows)) are.narrow
      (subst (λ x. 2 ^ 124 ≤ unsigned_abs x) (same weights f.0) f.2))
      (λ f.
      let too = subst (λ n. IsTooWide n (less_rows b.rows b.owners weights d n) all f.0) h.shaped.rows f.1 in
      wide_key_row is_column h.kept (num weights) all d ld are.positive have f.0 (
        too.0,
        too.1,
        record {
          positive = too.2.positive;
          same = λ k lk. too.2.same k lk ∙ ap (λ z. z *ℤ too.1) (less_is weights k);
          lowest = too.2.lowest;
        },
        too.3,
      ))
      wide.3
    where
      less_is : (weights : List ℤ) (k : ℕ) → less_rows b.rows b.owners weights d links k ≡ key_nums links demands basis place (nums_at b.rows) (num weights) d k
      less_is weights k = ap (λ z. pos 0 -ℤ z) (sum-same links _ _ (λ j lj. ap (λ z. z *ℤ nums_at b.rows j k) (sym (times_are h weights d j ld lj))))

      same : (weights : List ℤ) (k : ℕ) → less_rows b.rows b.owners weights d (length b.rows) k ≡ key_nums links demands basis place (nums_at b.rows) (num weights) d k
      same weights k = ap (λ n. less_rows b.rows b.owners weights d n k) h.shaped.rows ∙ less_is weights k

-- as a kind of the basis
pub spread_wide : {links demands : ℕ} {bound : ℕ → ℤ} {basis : ℕ → ColumnOf RouteColumn} {place role : ℕ → ℕ} {b : Keyed} → IsKeyed links demands bound basis place role b
    → (c : ColumnOf RouteColumn) (d : ℕ) → d < demands → (wide : WideKey) → IsWideSpread b d wide → HoldsWide links demands c basis (wide_spread b d wide)
spread_wide h c d ld Common wide = spread_common h (λ y. y ≡ c) d ld wide
spread_wide {links} {demands} {basis = basis} {b = b} h c d ld RowOf wide =
    subst (λ p. HoldsRow (links + demands) basis p) (sym (ap (λ n. get_or b.places (n + d) 0) h.shaped.rows ∙ h.placed (links + d) (omega (arith, ld)))) (spread_row h (λ y. y ≡ c) d ld wide)
