-- what names and owners say of the columns of a basis with keys
use Rattle.std.proofs.Common.{◌≡◌, ℕ, ℤ, List, Some, None, pos, ◌+◌, ◌<◌, ◌≤◌, ◌-ℤ◌, ◌*ℤ◌, get_or, sym, ap, ◌∙◌, subst, refl, arith, ⊎_elim, ◌≤ℤ◌}
use Rattle.net_core.{proofs.Library.{zero-*ℤ, cases_eq, ints}, specs.declared.columns.RouteColumn.RouteColumn, specs.declared.columns.RouteColumn.TheVariants.{LinkSlack, DemandSlack, Carry}}
use Rattle.checked_fraction.specs.Terms.{num}
use Rattle.simplex_law.{specs.Terms.{int_sum, dot, unit_vector, ColumnOf}, proofs.Lemmas.{sum-same, unit-other, unit-same}}
use Rattle.simplex_core.specs.Terms.{nums_at, den_at}
use Rattle.key_law.{specs.Terms.{key_part, left_column, HaveWeights, key_times}, proofs.Lemmas.{owned_difference, free_difference, key_part_low}}
use Rattle.key_rows.{specs.Bases.{IsColumnNamed, IsKeyed}, specs.KeyRows.{AreWeights, amounts, times_taken, weighted, left_over_rows}, specs.Names.{path_uses, uses, left_uses, links_in, demand_in, own_entry, owner_in, column_name, key_links, key_name}, specs.declared.keyed.Keyed.Keyed, proofs.Testing.weight_positive}

-- the entry in a demand's row by the owner
own_unit : (demands : ℕ) (name : RouteColumn) (d : ℕ) → d < demands → own_entry name d ≡ unit_vector (owner_in demands name) d
own_unit demands (LinkSlack link) d l = sym (unit-other demands d (λ e. omega (arith, e, l)))
own_unit demands (DemandSlack demand) d l = refl
own_unit demands (Carry demand path) d l = refl

-- a column of a demand takes of the links what its path uses
links_used : (name : RouteColumn) (d k : ℕ) → own_entry name d ≡ pos 1 → path_uses (links_in name) k ≡ uses name k
links_used (LinkSlack link) d k one = absurd (omega (arith, ints, one))
links_used (DemandSlack demand) d k one = refl
links_used (Carry demand path) d k one = refl

pub own_demand : (name : RouteColumn) (d e : ℕ) → demand_in name ≡ Some d → own_entry name e ≡ unit_vector d e
own_demand (LinkSlack link) d e is = absurd cc
own_demand (DemandSlack demand) d e is = let same : demand ≡ d = cc in ap (λ x. unit_vector x e) same
own_demand (Carry demand path) d e is = let same : demand ≡ d = cc in ap (λ x. unit_vector x e) same

pub own_none : (name : RouteColumn) (e : ℕ) → demand_in name ≡ None → own_entry name e ≡ pos 0
own_none (LinkSlack link) e is = refl
own_none (DemandSlack demand) e is = absurd cc
own_none (Carry demand path) e is = absurd cc

module _ {links demands : ℕ} {bound : ℕ → ℤ} {basis : ℕ → ColumnOf RouteColumn} {place role : ℕ → ℕ} {b : Keyed} (h : IsKeyed links demands bound basis place role b) where
  -- the entry of row i's column in a demand's row
  pub owner_entry : (i d : ℕ) → i < links → d < demands → (basis (place i)).entry (links + d) ≡ unit_vector (get_or b.owners i 0) d
  owner_entry i d li ld =
      (h.named (place i) (h.kept.roles.place_in i (omega (arith, li)))).demand d ld
      ∙ (own_unit demands (column_name b.names (place i)) d ld ∙ ap (λ o. unit_vector o d) (sym (h.owned i li)))

  -- how often row i is taken away from the row of a demand's key
  pub times_are : (weights : List ℤ) (d i : ℕ) → d < demands → i < links → key_times links demands basis place (num weights) d i ≡ times_taken b.owners weights d i
  times_are weights d i ld li = ap (λ x. x *ℤ num weights i) (owner_entry i d li ld)

  -- weights of the demand's rows are those of the law
  pub have_weights : (weights : List ℤ) (all : ℤ) (d : ℕ) → d < demands → AreWeights b.rows b.owners weights d all → HaveWeights links demands basis place (den_at b.rows) (num weights) d all
  have_weights weights all d ld are i li =
      let u = unit_vector (get_or b.owners i 0) d in
      ap (λ x. x *ℤ (num weights i *ℤ den_at b.rows i)) (owner_entry i d li ld) ∙ (⊎_elim
      (λ own. ap (λ x. u *ℤ x) (are.each i (omega (arith, li, h.shaped.rows)) own))
      (λ ne. let none : u ≡ pos 0 = unit-other (get_or b.owners i 0) d ne in
      ap (λ x. x *ℤ (num weights i *ℤ den_at b.rows i)) none ∙ (zero-*ℤ (num weights i *ℤ den_at b.rows i) ∙ sym (ap (λ x. x *ℤ all) none ∙ zero-*ℤ all)))
      (cases_eq (get_or b.owners i 0) d)
      ∙ ap (λ x. x *ℤ all) (sym (owner_entry i d li ld)))

  -- what the keys leave of a column of a demand
  pub left_is : (name : RouteColumn) (c : ColumnOf RouteColumn) (d k : ℕ) → d < demands → demand_in name ≡ Some d → IsColumnNamed links demands name c → k < links
      → left_column links demands basis place c.entry k ≡ left_uses name (key_links b.names b.places links (Some d)) k
  left_is name c d k ld is named lk =
      let p = place (links + d) in
      let inside = h.kept.roles.place_in (links + d) (omega (arith, ld)) in
      let of_key = h.named p inside in
      let at : get_or b.places (links + d) 0 ≡ p = h.placed (links + d) (omega (arith, ld)) in
      let one : own_entry (column_name b.names p) d ≡ pos 1 = sym (of_key.demand d ld) ∙ (h.kept.keys d d ld ld ∙ unit-same d) in
      let used : path_uses (links_in (key_name b.names b.places links d)) k ≡ key_part links demands basis place d k =
      ap (λ x. path_uses (links_in (column_name b.names x)) k) at ∙ (links_used (column_name b.names p) d k one ∙ sym (of_key.link k lk)) in
      owned_difference links demands (key_part links demands basis place) c.entry d ld (λ e le. named.demand e le ∙ own_demand name d e is) k
      ∙ (ap (λ x. x -ℤ key_part links demands basis place d k) (named.link k lk) ∙ ap (λ x. uses name k -ℤ x) (sym used))

  -- and of one of none
  pub left_is_free : (name : RouteColumn) (c : ColumnOf RouteColumn) (k : ℕ) → demand_in name ≡ None → IsColumnNamed links demands name c → k < links
      → left_column links demands basis place c.entry k ≡ left_uses name (key_links b.names b.places links None) k
  left_is_free name c k is named lk =
      free_difference links demands (key_part links demands basis place) c.entry (λ e le. named.demand e le ∙ own_none name e is) k ∙ (named.link k lk ∙ less_none (uses name k))
    where
      less_none : (x : ℤ) → x ≡ x -ℤ pos 0
      less_none x = omega (arith, ints)

  -- what a demand's first rows leave of its bound isn't negative
  pub left_nonneg : (weights : List ℤ) (all : ℤ) (d n : ℕ) → d < demands → n ≤ links → AreWeights b.rows b.owners weights d all
      → pos 0 ≤ℤ left_over_rows b.owners weights d all (num b.bounds (links + d)) (amounts b.values) n
  left_nonneg weights all d n ld le are =
      let same : weighted b.owners weights d (amounts b.values) n ≡ int_sum n (λ i. key_times links demands basis place (num weights) d i *ℤ dot links (nums_at b.rows i) (left_column links demands basis place bound)) =
      sum-same n _ _ (λ i l. ap (λ x. times_taken b.owners weights d i *ℤ x) (h.values i (omega (arith, l, le)))
      ∙ ap (λ x. x *ℤ dot links (nums_at b.rows i) (left_column links demands basis place bound)) (sym (times_are weights d i ld (omega (arith, l, le))))) in
      under same (h.bounds (links + d) (omega (arith, ld)))
      (key_part_low (λ c. ⊥) h.kept (num weights) all d ld are.positive (have_weights weights all d ld are) n le (λ i li. times_nonneg i li))
    where
      under : {s t y z : ℤ} → s ≡ t → y ≡ z → t ≤ℤ (all *ℤ z) → pos 0 ≤ℤ ((all *ℤ y) -ℤ s)
      under {s} {t} {y} {z} e f low = subst (λ x. pos 0 ≤ℤ ((all *ℤ x) -ℤ s)) (sym f) (omega (arith, ints, e, low))

      once : (x : ℤ) → pos 1 *ℤ x ≡ x
      once x = omega (arith, ints)

      times_nonneg : (i : ℕ) → i < links → pos 0 ≤ℤ key_times links demands basis place (num weights) d i
      times_nonneg i li = subst (λ x. pos 0 ≤ℤ x) (sym (times_are weights d i ld li)) (⊎_elim
          (λ own. subst (λ x. pos 0 ≤ℤ x) (sym (ap (λ x. x *ℤ num weights i) (subst (λ z. unit_vector (get_or b.owners i 0) z ≡ pos 1) own (unit-same (get_or b.owners i 0))) ∙ once (num weights i)))
          (weight_positive b.rows b.owners weights d i all are (omega (arith, li, h.shaped.rows)) own))
          (λ ne. subst (λ x. pos 0 ≤ℤ x) (sym (ap (λ x. x *ℤ num weights i) (unit-other (get_or b.owners i 0) d ne) ∙ zero-*ℤ (num weights i))) (omega (arith, ints)))
          (cases_eq (get_or b.owners i 0) d))
