-- a key leaves
use Rattle.std.proofs.Common.{◌≡◌, ℕ, Some, pos, length, cond, ◌<◌, ◌+◌, ◌-◌, refl, sym, ap, ◌∙◌, subst, arith, ⊎_elim, ℤ, ◌-ℤ◌, ◌*ℤ◌, ◌<ℤ◌, le-ltb}
use Rattle.net_core.proofs.Library.{cases_eq, ints}
use Rattle.checked_fraction.{specs.Terms.num, proofs.Products.cancelled}
use Rattle.plan_terms.specs.Terms.{RouteColumn, LinkSlack, DemandSlack, Carry}
use Rattle.simplex_law.{specs.Terms.{dot, unit_vector, ColumnOf, IsPick}, proofs.Lemmas.{positive_cancel, pick_again, dot-same, unit-other, row_unique, weights}}
use Rattle.simplex_core.specs.Terms.{nums_at, den_at}
use Rattle.key_law.{specs.Terms.{cost, full_kept, full_prices, full_key, key_nums, role_nums, HaveWeights, AreKeyRows, IsKept}, proofs.Lemmas.{prices_row, cost_product, key_row_product, alone_key_dot, role_tableau, demand_rows}}
use Rattle.key_rows.{specs.Terms.{demand_in, column_name, own_entry}, specs.declared.keyed.Keyed.Keyed}
use Rattle.key_paths.{specs.inner.Held.{IsEntering, IsPriced, HasPriced, IsAlone}, proofs.Named.own_none}

-- a column with an entry in a demand is one of it
unit_at : (f d : ℕ) → pos 0 <ℤ unit_vector f d → f ≡ d
unit_at f d p = ⊎_elim (λ e. e) (λ ne. absurd (none (unit-other f d ne) p)) (cases_eq f d)
  where
    none : {x : ℤ} → x ≡ pos 0 → pos 0 <ℤ x → ⊥
    none {x} a b = omega (arith, ints, a, b)

own_some : (name : RouteColumn) (d : ℕ) → pos 0 <ℤ own_entry name d → demand_in name ≡ Some d
own_some (LinkSlack l) d p = absurd (omega (arith, ints, p))
own_some (DemandSlack f) d p = ap Some (unit_at f d p)
own_some (Carry f path) d p = ap Some (unit_at f d p)

-- a key that has no other column of its demand leaves for one of the demand alone
module _ {links demands : ℕ} {bound : ℕ → ℤ} {basis : ℕ → ColumnOf RouteColumn} {place role : ℕ → ℕ} {b : Keyed} {name : RouteColumn} {c : ColumnOf RouteColumn}
    (d : ℕ) (e : IsEntering links demands bound basis place role b name c (links + d)) (alone : IsAlone b.owners links d) where
  abbrev kept : IsKept links demands bound basis place role (nums_at b.rows) (den_at b.rows) (num b.prices.nums) b.prices.den
  kept = e.held.keyed.kept

  low : d < demands
  low = omega (arith, e.inside)

  none_stands : (j : ℕ) → j < links → (basis (place j)).entry (links + d) ≡ pos 0
  none_stands j lj = (e.held.keyed.named (place j) (kept.roles.place_in j (omega (arith, lj)))).demand d low
      ∙ own_none (column_name b.names (place j)) demands d (λ f. alone j lj (e.held.keyed.owned j lj ∙ f))

  -- over any weights its row takes of the column its entry in the demand
  module _ (weight : ℕ → ℤ) (all : ℤ) (positive : pos 0 <ℤ all) (weights_are : (i : ℕ) → i < links → weight i *ℤ den_at b.rows i ≡ all) where
    have : (f : ℕ) → f < demands → HaveWeights links demands basis place (den_at b.rows) weight f all
    have f lf i li = ap (λ x. (basis (place i)).entry (links + f) *ℤ x) (weights_are i li)

    rows : AreKeyRows links demands basis place (λ f. key_nums links demands basis place (nums_at b.rows) weight f) (λ f. all)
    rows = demand_rows kept (λ f. weight) (λ f. all) (λ f l. positive) have

    again : IsPick (links + demands) bound (λ j. role_nums links demands basis place (nums_at b.rows) (den_at b.rows) (λ f. key_nums links demands basis place (nums_at b.rows) weight f) (λ f. all) (role j))
        (full_prices links demands basis place (num b.prices.nums) b.prices.den) b.prices.den c (place (links + d))
    again = pick_again (links + demands) bound basis _ _ _ _ _ _ _ _ c (place (links + d)) (role_tableau kept e.key_rows) (role_tableau kept rows) e.pick

    row_is : (r : ℕ) → r ≡ links + d → role_nums links demands basis place (nums_at b.rows) (den_at b.rows) (λ f. key_nums links demands basis place (nums_at b.rows) weight f) (λ f. all) r
        ≡ full_key links demands basis place d (key_nums links demands basis place (nums_at b.rows) weight d) all
    row_is r is =
        let past : r - links ≡ d = omega (arith, is) in
        ap (λ t. cond t (full_kept links demands basis place (nums_at b.rows r) (den_at b.rows r))
        (full_key links demands basis place (r - links) (key_nums links demands basis place (nums_at b.rows) weight (r - links)) all)) (le-ltb r links (omega (arith, is)))
        ∙ ap (λ y. full_key links demands basis place y (key_nums links demands basis place (nums_at b.rows) weight y) all) past

    stands : pos 0 <ℤ (all *ℤ c.entry (links + d))
    stands = subst (λ x. pos 0 <ℤ x) (key_row_product kept weight all d low c.entry ∙ alone_key_dot links demands basis place weight all d none_stands (nums_at b.rows) c.entry)
        (subst (λ u. pos 0 <ℤ dot (links + demands) u c.entry) (row_is (role (place (links + d))) (kept.roles.there (links + d) e.inside)) again.positive)

  pub entering_own : demand_in name ≡ Some d
  entering_own =
      let w = weights links (den_at b.rows) kept.over in
      own_some name d (subst (λ x. pos 0 <ℤ x) (e.named.demand d low) (positive_cancel w.1 (c.entry (links + d)) w.2 (stands w.0 w.1 w.2 w.3)))

-- a column has one cost for all ways to keep a basis
pub same_priced : {links demands : ℕ} {bound : ℕ → ℤ} {basis : ℕ → ColumnOf RouteColumn} {place role other_place other_role : ℕ → ℕ} {b other : Keyed} {name : RouteColumn} {c : ColumnOf RouteColumn} {x : ℤ} (r i : ℕ)
    → IsEntering links demands bound basis place role b name c r → IsEntering links demands bound basis other_place other_role other name c i → other.prices ≡ b.prices
    → IsPriced links demands basis place b c x → IsPriced links demands basis other_place other c x
same_priced {links} {demands} {bound} {basis} {place} {role} {other_place} {other_role} {b} {other} {name} {c} {x} r i e o same priced =
    let h = e.held.keyed.kept in
    let g = subst (λ p. IsKept links demands bound basis other_place other_role (nums_at other.rows) (den_at other.rows) (num p.nums) p.den) same o.held.keyed.kept in
    let rows = λ (k : ℕ) (lk : k < links + demands). cancelled b.prices.den _ _ h.above
    (row_unique (links + demands) (λ j. (basis j).entry) h.whole.nums h.whole.den h.whole.tableau.filling.0 h.whole.tableau.filling.1 (λ j. (basis j).gain) _ _ b.prices.den b.prices.den k
    h.whole.tableau.filling.2 (prices_row h) (prices_row g) lk) in
    subst (λ p. x ≡ cost links demands basis other_place (num p.nums) p.den c) (sym same)
    (priced ∙ (sym (cost_product h c) ∙ (ap (λ y. y -ℤ (b.prices.den *ℤ c.gain)) (dot-same (links + demands) _ _ c.entry c.entry rows (λ k lk. refl)) ∙ cost_product g c)))

-- lists that a priced column enters tell how many links and demands there are
pub priced_here : {links demands : ℕ} {b : Keyed} {name : RouteColumn} {x : ℤ} {r : ℕ} → HasPriced links demands b name x r → HasPriced (length b.rows) (length b.duals) b name x r
priced_here {links} {demands} {b} {name} {x} {r} p =
    let s = p.entering.held.keyed.shaped in
    subst (λ n. HasPriced n (length b.duals) b name x r) (sym s.rows) (subst (λ n. HasPriced links n b name x r) (sym s.duals) p)
