-- what a held basis knows of its numbers
use Rattle.std.proofs.Common.{◌≡◌, ℕ, Option, Some, None, zero, suc, pos, length, get_or, slice_get, ◌<◌, ◌≤◌, ◌+◌, ◌*◌, ◌^◌, refl, sym, ap, ◌∙◌, subst, arith, ⊎_elim, unsigned_abs, ℤ, ◌-ℤ◌, ◌*ℤ◌, ◌<ℤ◌, ◌≤ℤ◌}
use Rattle.net_core.proofs.Library.{*ℤ-zero, cases_lt, ints, get_or_past}
use Rattle.checked_fraction.{specs.Terms.{num, IsNarrow}, specs.declared.row.Row.Row}
use Rattle.plan_terms.specs.Terms.{RouteColumn}
use Rattle.simplex_law.{specs.Terms.{int_sum, dot, ColumnOf, IsPacking}, proofs.Lemmas.unit-same}
use Rattle.simplex_core.specs.Terms.{nums_at, den_of}
use Rattle.key_law.{specs.Terms.{key_part, left_column}, proofs.Lemmas.kept_value_low}
use Rattle.key_rows.{specs.Terms.{IsShapedBasis, IsColumnNamed, IsKeyed, amounts, demand_in, links_in, left_uses, HasKey, IsShortPath, key_links, column_name, key_name, own_entry}, specs.declared.keyed.Keyed.Keyed, proofs.Columns.{left_is, left_is_free}}
use Rattle.key_paths.{specs.inner.Held.{IsZeroOrOne, IsNameOf, IsOnce, AreColumnNames, IsHeld}, proofs.Named.{entry_01, once_links, short_links, named_packing, IsNamedColumn}}

pub den_narrow : (row : Option Row) → IsNarrow (den_of row)
den_narrow None = omega (arith, ints)
den_narrow (Some row) = row.narrow_den

-- what narrow numbers, of which each counts once at most, sum to
part_01 : (b x : ℤ) → IsZeroOrOne x → pos 0 ≤ℤ b → IsNarrow b → (pos 0 ≤ℤ (b *ℤ x)) × ((b *ℤ x) ≤ℤ pos (2 ^ 62))
part_01 b x is high low = ⊎_elim
    (λ e. let z : b *ℤ x ≡ pos 0 = ap (λ y. b *ℤ y) e ∙ *ℤ-zero b in (omega (arith, ints, z), omega (arith, ints, z)))
    (λ e. let z : b *ℤ x ≡ b *ℤ pos 1 = ap (λ y. b *ℤ y) e in (omega (arith, ints, z, high), omega (arith, ints, z, high, low)))
    is

sum_within : (n : ℕ) (f : ℕ → ℤ) → ((k : ℕ) → k < n → (pos 0 ≤ℤ f k) × (f k ≤ℤ pos (2 ^ 62))) → (pos 0 ≤ℤ int_sum n f) × (int_sum n f ≤ℤ pos (n * 2 ^ 62))
sum_within zero f h = (omega (arith, ints), omega (arith, ints))
sum_within (suc n) f h =
    let before = sum_within n f (λ k l. h k (omega (arith, l))) in
    let here = h n (omega arith) in
    (omega (arith, ints, before.0, here.0), omega (arith, ints, before.1, here.1))

within : (b s : ℤ) (n : ℕ) → n ≤ 2048 → pos 0 ≤ℤ b → IsNarrow b → pos 0 ≤ℤ s → s ≤ℤ pos (n * 2 ^ 62) → unsigned_abs (b -ℤ s) < 2 ^ 76
within b s n few high low some most = omega (arith, ints, few, high, low, some, most)

-- what the keys leave of a link is less than 2 ^ 76
pub left_low : (links demands : ℕ) (bound : ℕ → ℤ) (basis : ℕ → ColumnOf RouteColumn) (place : ℕ → ℕ) → demands ≤ 2048 → ((r : ℕ) → r < links + demands → (pos 0 ≤ℤ bound r) × IsNarrow (bound r))
    → ((j : ℕ) → j < links + demands → IsNamedColumn links demands (basis j)) → ((r : ℕ) → r < links + demands → place r < links + demands)
    → (k : ℕ) → k < links → unsigned_abs (left_column links demands basis place bound k) < 2 ^ 76
left_low links demands bound basis place few bounds columns place_in k lk =
    let s = sum_within demands (λ d. bound (links + d) *ℤ key_part links demands basis place d k)
    (λ d ld.
    let column = columns (place (links + d)) (place_in (links + d) (omega (arith, ld))) in
    let at = bounds (links + d) (omega (arith, ld)) in
    part_01 (bound (links + d)) (key_part links demands basis place d k) (entry_01 links demands column.0 (basis (place (links + d))) column.1 column.2 k (omega (arith, lk))) at.0 at.1) in
    let here = bounds k (omega (arith, lk)) in
    within (bound k) (int_sum demands (λ d. bound (links + d) *ℤ key_part links demands basis place d k)) demands few here.0 here.1 s.0 s.1

-- what the keys leave of a column, by its name
pub left_of_name : {links demands : ℕ} {bound : ℕ → ℤ} {basis : ℕ → ColumnOf RouteColumn} {place role : ℕ → ℕ} {b : Keyed} (h : IsKeyed links demands bound basis place role b) (name : RouteColumn) (c : ColumnOf RouteColumn)
    → IsNameOf links demands name → IsColumnNamed links demands name c → (k : ℕ) → k < links → left_column links demands basis place c.entry k ≡ left_uses name (key_links b.names b.places links (demand_in name)) k
left_of_name {links} {demands} {bound} {basis} {place} {role} {b} h name c sound named k lk =
    elim (demand_in name) as (λ o. demand_in name ≡ o → left_column links demands basis place c.entry k ≡ left_uses name (key_links b.names b.places links o) k) [
      | None ↦ λ is. left_is_free h name c k is named lk
      | Some d ↦ λ is. left_is h name c d k (sound.demand d is) is named lk
    ] refl

module _ {links demands : ℕ} {bound : ℕ → ℤ} {basis : ℕ → ColumnOf RouteColumn} {place role : ℕ → ℕ} {b : Keyed} (h : IsHeld links demands bound basis place role b) where
  pub bound_narrow : (r : ℕ) → r < links + demands → IsNarrow (bound r)
  bound_narrow r l = subst IsNarrow (h.keyed.bounds r l) (h.keyed.shaped.narrow_bounds r)

  pub held_packing : IsPacking (links + demands) bound (IsNamedColumn links demands)
  held_packing = named_packing links demands bound (λ k l. (h.positive k l, bound_narrow k l))

  pub held_columns : (j : ℕ) → j < links + demands → IsNamedColumn links demands (basis j)
  held_columns j l = (column_name b.names j, h.names j l, h.keyed.named j l)

  pub held_names : AreColumnNames links demands basis b.names
  held_names = record { count = h.keyed.shaped.names; each = h.keyed.named }

  key_in : (d : ℕ) → d < demands → place (links + d) < links + demands
  key_in d ld = h.keyed.kept.roles.place_in (links + d) (omega (arith, ld))

  -- the name of a key
  pub key_name_is : (d : ℕ) → d < demands → key_name b.names b.places links d ≡ column_name b.names (place (links + d))
  key_name_is d ld = ap (λ x. column_name b.names x) (h.keyed.placed (links + d) (omega (arith, ld)))

  pub key_named : (d : ℕ) → d < demands → IsColumnNamed links demands (key_name b.names b.places links d) (basis (place (links + d)))
  key_named d ld = subst (λ x. IsColumnNamed links demands x (basis (place (links + d)))) (sym (key_name_is d ld)) (h.keyed.named (place (links + d)) (key_in d ld))

  pub key_sound : (d : ℕ) → d < demands → IsNameOf links demands (key_name b.names b.places links d)
  key_sound d ld = subst (λ x. IsNameOf links demands x) (sym (key_name_is d ld)) (h.names (place (links + d)) (key_in d ld))

  pub key_own : (d : ℕ) → d < demands → own_entry (key_name b.names b.places links d) d ≡ pos 1
  key_own d ld = sym ((key_named d ld).demand d ld) ∙ (h.keyed.kept.keys d d ld ld ∙ unit-same d)

  pub key_once : (d : ℕ) → d < demands → IsOnce links (links_in (key_name b.names b.places links d))
  key_once d ld = once_links links demands (key_name b.names b.places links d) d (key_own d ld) (key_sound d ld)

  left_of : (k : ℕ) → k < links → unsigned_abs (left_column links demands basis place bound k) < 2 ^ 76
  left_of = left_low links demands bound basis place h.few (λ r l. (h.positive r l, bound_narrow r l)) held_columns h.keyed.kept.roles.place_in

  pub rest_low : (k : ℕ) → unsigned_abs (num b.rest k) < 2 ^ 76
  rest_low k = ⊎_elim
      (λ lk. subst (λ x. unsigned_abs x < 2 ^ 76) (sym (h.keyed.rest k lk)) (left_of k lk))
      (λ le. subst (λ x. unsigned_abs x < 2 ^ 76) (sym (get_or_past b.rest k (pos 0) (omega (arith, le, h.keyed.shaped.rest)))) (omega (arith, ints)))
      (cases_lt k links)

  -- values are less than 2 ^ 124
  pub held_value_low : (i : ℕ) → i < links → unsigned_abs (dot links (nums_at b.rows i) (left_column links demands basis place bound)) < 2 ^ 124
  held_value_low i l = kept_value_low (IsNamedColumn links demands) h.keyed.kept i l held_packing held_columns (den_narrow (slice_get b.rows i))

  pub amount_low : (i : ℕ) → i < links → amounts b.values i <ℤ pos (2 ^ 124)
  amount_low i l = below (h.keyed.values i l) (held_value_low i l)
    where
      below : {n : ℕ} {x : ℤ} → pos n ≡ x → unsigned_abs x < 2 ^ 124 → pos n <ℤ pos (2 ^ 124)
      below {n} {x} e lt = omega (arith, ints, e, lt)

-- lists that are shaped tell how many links and demands there are
pub shaped_here : {links demands : ℕ} {b : Keyed} → IsShapedBasis links demands b → IsShapedBasis (length b.rows) (length b.duals) b
shaped_here {links} {demands} {b} s = subst (λ n. IsShapedBasis n (length b.duals) b) (sym s.rows) (subst (λ n. IsShapedBasis links n b) (sym s.duals) s)

-- the key of a demand is in the lists, along links that there are
pub has_key : {links demands : ℕ} {b : Keyed} → IsShapedBasis links demands b → (d : ℕ) → d < demands → HasKey b.names b.places links d
has_key {links} {demands} {b} s d l = (omega (arith, l, s.places), omega (arith, s.inside (links + d) (omega (arith, l)), s.names))

pub key_short : {links demands : ℕ} {b : Keyed} → IsShapedBasis links demands b → (o : Option ℕ) → ((d : ℕ) → o ≡ Some d → d < demands) → IsShortPath links (key_links b.names b.places links o)
key_short s None h = (tt, omega arith)
key_short {links} {demands} {b} s (Some d) h =
    let at : get_or b.places (links + d) 0 < links + demands = s.inside (links + d) (omega (arith, h d refl)) in
    short_links links (key_name b.names b.places links d) (s.within (get_or b.places (links + d) 0) at)
