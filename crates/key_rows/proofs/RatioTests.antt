-- the first of the roles, found candidate by candidate
use Rattle.std.proofs.Common.{◌≡◌, ℕ, ℤ, List, Option, Some, None, length, pos, ◌+◌, ◌-◌, ◌<◌, ◌-ℤ◌, ◌*ℤ◌, ◌⊎◌, inl, inr, get_or, sym, ap, ◌∙◌, subst, refl, arith, ⊎_elim, ◌<ℤ◌, ◌≤ℤ◌}
use Rattle.net_core.{proofs.Library.{*ℤ-zero, zero-*ℤ, cases_eq, ints}, specs.declared.columns.RouteColumn.RouteColumn, specs.declared.ids.LinkId.LinkId}
use Rattle.checked_fraction.specs.Terms.{num}
use Rattle.simplex_law.{specs.Terms.{IsInverseRow, ColumnOf, int_sum, dot, IsNoLater}, proofs.Lemmas.{sum-same, sum-none, unit-other, weights}}
use Rattle.simplex_core.specs.Terms.{nums_at, den_at}
use Rattle.key_law.{specs.Terms.{left_column, full_kept, full_key, key_nums, key_times}, proofs.Lemmas.{kept_row, key_row, row_product, key_row_product, short_no_later}}
use Rattle.key_rows.{specs.Bases.IsKeyed, specs.FirstRoles.{HasStep, LimitsNothing, IsNoLaterRole, IsFirstRole}, specs.KeyRows.{AreWeights, IsOwn, weighted}, specs.KeyTests.{HaveColumnProducts, product_over}, specs.Names.own_entry, specs.inner.Candidates.{HasNoStep, IsLeavingCandidate, IsKeyCandidate, LeavesFirst, IsJoined, IsWithKey}, specs.inner.Orders.{IsRowCandidate, IsBestRow}, specs.inner.Tried.role_in, specs.declared.keyed.Keyed.Keyed, specs.declared.order.Candidate.Candidate, proofs.Columns.{have_weights, owner_entry}, proofs.FirstRoles.{positive_again, limits_nothing, no_later_role, no_later_itself, no_later_over}, proofs.Leavers.key_dot_is, proofs.Lowered.{first_comes, IsWholeRow}}

module _ {links demands : ℕ} {bound : ℕ → ℤ} {basis : ℕ → ColumnOf RouteColumn} {place role : ℕ → ℕ} {b : Keyed} (h : IsKeyed links demands bound basis place role b)
    (name : RouteColumn) (key : List LinkId) (a : ℕ → ℤ) (have : (i : ℕ) → i < links → num b.products i ≡ dot links (nums_at b.rows i) (left_column links demands basis place a))
    (products : HaveColumnProducts b name key) (own : (d : ℕ) → d < demands → own_entry name d ≡ a (links + d)) where
  abbrev m : ℕ
  m = links + demands

  abbrev row_at : ℕ → ℕ → ℤ
  row_at i = full_kept links demands basis place (nums_at b.rows i) (den_at b.rows i)

  abbrev key_at : ℕ → List ℤ → ℤ → ℕ → ℤ
  key_at d weight all = full_key links demands basis place d (key_nums links demands basis place (nums_at b.rows) (num weight) d) all

  row_is : (i : ℕ) → i < links → IsInverseRow m basis (place i) (row_at i) (den_at b.rows i)
  row_is i l = (h.kept.over i l, kept_row h.kept i l)

  row_step : (i : ℕ) → i < links → dot m (row_at i) a ≡ num b.products i
  row_step i l = row_product h.kept i a ∙ sym (have i l)

  key_is : (d : ℕ) (weight : List ℤ) (all : ℤ) → d < demands → AreWeights b.rows b.owners weight d all → IsInverseRow m basis (place (links + d)) (key_at d weight all) all
  key_is d weight all l are = (are.positive, key_row h.kept (num weight) all d l (have_weights h weight all d l are))

  key_step : (d : ℕ) (weight : List ℤ) (all : ℤ) → d < demands → product_over b d weight all (own_entry name d) ≡ dot m (key_at d weight all) a
  key_step d weight all l = subst (λ n. (all *ℤ own_entry name d) -ℤ weighted b.owners weight d (num b.products) n ≡ dot m (key_at d weight all) a) (sym h.shaped.rows)
      (key_dot_is h a have weight all d (own_entry name d) (num b.products) a l (own d l) have ∙ sym (key_row_product h.kept (num weight) all d l a))

  -- a candidate's row of the whole inverse
  pub record IsStanding (x : Candidate) : Type 0 where
    pub full : ℕ → ℤ
    pub den : ℤ
    pub whole : IsWholeRow links demands basis place b name x full
    pub row : IsInverseRow m basis (place x.role) full den
    pub step : x.product ≡ dot m full a
    pub positive : pos 0 <ℤ x.product

  standing_at : (x : Candidate) → x.role < m → IsLeavingCandidate b name x → IsStanding x
  standing_at x inside (inl c) =
      let row = subst (λ n. IsRowCandidate n b.values b.products x) h.shaped.rows c in record {
        full = row_at x.role;
        den = den_at b.rows x.role;
        whole = inl (row, refl);
        row = row_is x.role row.inside;
        step = row.product ∙ sym (row_step x.role row.inside);
        positive = c.positive;
      }
  standing_at x inside (inr c) =
      let d = x.role - length b.rows in
      let at : x.role ≡ links + d = omega (arith, c.0, h.shaped.rows) in
      let ld : d < demands = omega (arith, inside, at) in record {
        full = key_at d c.1.weights c.1.all;
        den = c.1.all;
        whole = inr (d, ld, at, c.1, refl);
        row = subst (λ r. IsInverseRow m basis (place r) (key_at d c.1.weights c.1.all) c.1.all) (sym at) (key_is d c.1.weights c.1.all ld c.1.are);
        step = c.1.product ∙ key_step d c.1.weights c.1.all ld;
        positive = c.1.positive;
      }

  candidate_step : (x : Candidate) → IsStanding x → HasStep m bound basis place a x.role
  candidate_step x s = (s.full, s.den, s.row, subst (λ p. pos 0 <ℤ p) s.step s.positive)

  candidate_first : (x y : Candidate) → x.role < m → y.role < m → IsStanding x → IsStanding y → LeavesFirst b name key x y → IsNoLaterRole m bound basis place a x.role y.role
  candidate_first x y ix iy sx sy first =
      no_later_role h.kept a x.role y.role sx.full sy.full sx.den sy.den sx.row sy.row
      (subst (λ p. IsNoLater m bound sx.full p sy.full (dot m sy.full a)) sx.step
      (subst (λ q. IsNoLater m bound sx.full x.product sy.full q) sy.step (first_comes h name key a have products own x y ix iy first sx.full sy.full sx.whole sy.whole)))

  -- the first row is the first of the roles of links
  pub rows_first : (best : Option Candidate) → IsBestRow links b.rows (left_column links demands basis place bound) b.values b.products links best → IsFirstRole m bound basis place a (λ r. r < links) (role_in best)
  rows_first None none = λ r lm l. limits_nothing h.kept a r (row_at r) (den_at b.rows r) (row_is r l) (λ p. not_both (num b.products r) (none r l) (subst (λ x. pos 0 <ℤ x) (row_step r l) p))
    where
      not_both : (x : ℤ) → x ≤ℤ pos 0 → pos 0 <ℤ x → ⊥
      not_both x low high = omega (arith, ints, low, high)
  rows_first (Some x) best =
      let c = best.0 in
      let inside : x.role < m = omega (arith, c.inside) in (
        inside,
        candidate_step x (standing_at x inside (inl (subst (λ n. IsRowCandidate n b.values b.products x) (sym h.shaped.rows) c))),
        λ s lm l u v d e hu hv pu pv.
            let ps : pos 0 <ℤ num b.products s = subst (λ z. pos 0 <ℤ z) (row_step s l) (positive_again h.kept a s v (row_at s) e (den_at b.rows s) hv (row_is s l) pv) in
            no_later_role h.kept a x.role s (row_at x.role) (row_at s) (den_at b.rows x.role) (den_at b.rows s) (row_is x.role c.inside) (row_is s l)
            (subst (λ p. IsNoLater m bound (row_at x.role) p (row_at s) (dot m (row_at s) a)) (sym (row_step x.role c.inside))
            (subst (λ q. IsNoLater m bound (row_at x.role) (num b.products x.role) (row_at s) q) (sym (row_step s l))
            (short_no_later links demands basis place role h.kept.roles h.kept.keys bound (nums_at b.rows x.role) (den_at b.rows x.role) (num b.products x.role) (nums_at b.rows s) (den_at b.rows s) (num b.products s) (best.1 s l ps))))
            u v d e hu hv pu pv,
      )

  -- a key without a step
  key_limits_nothing : (d : ℕ) → d < demands → HasNoStep b d (own_entry name d) → LimitsNothing m bound basis place a (links + d)
  key_limits_nothing d l none = limits_nothing h.kept a (links + d) (key_at d none.0 none.1) none.1 (key_is d none.0 none.1 l none.2)
      (λ p. not_both (dot m (key_at d none.0 none.1) a) (subst (λ x. x ≤ℤ pos 0) (key_step d none.0 none.1 l) none.3) p)
    where
      not_both : (x : ℤ) → x ≤ℤ pos 0 → pos 0 <ℤ x → ⊥
      not_both x low high = omega (arith, ints, low, high)

  -- a key of a demand that neither the column nor a row with a product is one of
  pub untouched_limits_nothing : (d : ℕ) → d < demands → own_entry name d ≡ pos 0 → ((j : ℕ) → j < links → IsOwn b.owners d j → num b.products j ≡ pos 0) → LimitsNothing m bound basis place a (links + d)
  untouched_limits_nothing d l none each =
      let w = weights links (den_at b.rows) h.kept.over in
      limits_nothing h.kept a (links + d) (full_key links demands basis place d (key_nums links demands basis place (nums_at b.rows) w.0 d) w.1) w.1
      (w.2, key_row h.kept w.0 w.1 d l (λ i li. ap (λ x. (basis (place i)).entry (links + d) *ℤ x) (w.3 i li)))
      (λ p. not_positive _ (key_row_product h.kept w.0 w.1 d l a ∙ nothing w.0 w.1) p)
    where
      not_positive : (x : ℤ) → x ≡ pos 0 → pos 0 <ℤ x → ⊥
      not_positive x e high = omega (arith, ints, e, high)

      less_none : (x s : ℤ) → x ≡ pos 0 → s ≡ pos 0 → x -ℤ s ≡ pos 0
      less_none x s e f = omega (arith, ints, e, f)

      no_part : (w : ℕ → ℤ) (i : ℕ) → i < links → key_times links demands basis place w d i *ℤ dot links (nums_at b.rows i) (left_column links demands basis place a) ≡ pos 0
      no_part w i li = ⊎_elim
          (λ is. ap (λ x. key_times links demands basis place w d i *ℤ x) (sym (have i li) ∙ each i li is) ∙ *ℤ-zero (key_times links demands basis place w d i))
          (λ ne. let gone : (basis (place i)).entry (links + d) ≡ pos 0 = owner_entry h i d li l ∙ unit-other (get_or b.owners i 0) d ne in
          ap (λ x. (x *ℤ w i) *ℤ dot links (nums_at b.rows i) (left_column links demands basis place a)) gone
          ∙ (ap (λ x. x *ℤ dot links (nums_at b.rows i) (left_column links demands basis place a)) (zero-*ℤ (w i)) ∙ zero-*ℤ (dot links (nums_at b.rows i) (left_column links demands basis place a))))
          (cases_eq (get_or b.owners i 0) d)

      nothing : (w : ℕ → ℤ) (all : ℤ) → (all *ℤ a (links + d)) -ℤ int_sum links (λ i. key_times links demands basis place w d i *ℤ dot links (nums_at b.rows i) (left_column links demands basis place a)) ≡ pos 0
      nothing w all = less_none _ _ (ap (λ x. all *ℤ x) (sym (own d l) ∙ none) ∙ *ℤ-zero all) (sum-same links _ (λ i. pos 0) (λ i li. no_part w i li) ∙ sum-none links)

  -- one key more that doesn't limit the column
  and_none : (these : ℕ → Type 0) (r : ℕ) (o : Option ℕ) → LimitsNothing m bound basis place a r → IsFirstRole m bound basis place a these o → IsFirstRole m bound basis place a (λ s. these s ⊎ (s ≡ r)) o
  and_none these r None none first = λ s l. ⊎_elim (λ t. first s l t) (λ e. subst (LimitsNothing m bound basis place a) (sym e) none)
  and_none these r (Some x) none first = (
    first.0,
    first.1,
    λ s l. ⊎_elim (λ t. first.2 s l t) (λ e u v d f hu hv pu pv. absurd (none v f (subst (λ z. IsInverseRow m basis (place z) v f) e hv) pv)),
  )

  -- one candidate more
  and_later : (these : ℕ → Type 0) (x y : ℕ) → IsNoLaterRole m bound basis place a x y → IsFirstRole m bound basis place a these (Some x) → IsFirstRole m bound basis place a (λ s. these s ⊎ (s ≡ y)) (Some x)
  and_later these x y le first = (first.0, first.1, λ s l. ⊎_elim (λ t. first.2 s l t) (λ e. subst (IsNoLaterRole m bound basis place a x) (sym e) le))

  and_first : (these : ℕ → Type 0) (x y : ℕ) → y < m → HasStep m bound basis place a y → IsNoLaterRole m bound basis place a y x → IsFirstRole m bound basis place a these (Some x)
      → IsFirstRole m bound basis place a (λ s. these s ⊎ (s ≡ y)) (Some y)
  and_first these x y inside step le first = (
    inside,
    step,
    λ s l. ⊎_elim
        (λ t. no_later_over h.kept a y x s first.1 le (first.2 s l t))
        (λ e. subst (IsNoLaterRole m bound basis place a y) (sym e) (no_later_itself h.kept a y step)),
  )

  and_only : (these : ℕ → Type 0) (y : ℕ) → y < m → HasStep m bound basis place a y → IsFirstRole m bound basis place a these None → IsFirstRole m bound basis place a (λ s. these s ⊎ (s ≡ y)) (Some y)
  and_only these y inside step none = (
    inside,
    step,
    λ s l. ⊎_elim
        (λ t u v d e hu hv pu pv. absurd (none s l t v e hv pv))
        (λ e. subst (IsNoLaterRole m bound basis place a y) (sym e) (no_later_itself h.kept a y step)),
  )

  -- a key more, which is a candidate
  and_key : (these : ℕ → Type 0) (best : Option Candidate) (x : Candidate) (after : Option Candidate) → x.role < m → IsLeavingCandidate b name x
      → ((y : Candidate) → best ≡ Some y → (y.role < m) × IsLeavingCandidate b name y)
      → IsFirstRole m bound basis place a these (role_in best) → IsJoined b name key best x after → IsFirstRole m bound basis place a (λ s. these s ⊎ (s ≡ x.role)) (role_in after)
  and_key these None x after ix cx are first is =
      subst (λ o. IsFirstRole m bound basis place a (λ s. these s ⊎ (s ≡ x.role)) (role_in o)) (sym is) (and_only these x.role ix (candidate_step x (standing_at x ix cx)) first)
  and_key these (Some y) x after ix cx are first is =
      let cy = are y refl in
      let sx = standing_at x ix cx in
      let sy = standing_at y cy.0 cy.1 in
      subst (λ o. IsFirstRole m bound basis place a (λ s. these s ⊎ (s ≡ x.role)) (role_in o)) (sym is.1) (⊎_elim
      (λ old. subst (λ z. IsFirstRole m bound basis place a (λ s. these s ⊎ (s ≡ x.role)) (Some z.role)) (sym old.0)
      (and_later these y.role x.role (candidate_first y x cy.0 ix sy sx old.1) first))
      (λ new. subst (λ z. IsFirstRole m bound basis place a (λ s. these s ⊎ (s ≡ x.role)) (Some z.role)) (sym new.0)
      (and_first these y.role x.role ix (candidate_step x sx) (candidate_first x y ix cy.0 sx sy new.1) first))
      is.2)

  -- the key of a demand more
  pub with_key_first : (these : ℕ → Type 0) (d : ℕ) (best after : Option Candidate) → d < demands → ((y : Candidate) → best ≡ Some y → (y.role < m) × IsLeavingCandidate b name y)
      → IsFirstRole m bound basis place a these (role_in best) → IsWithKey b name key d best after → IsFirstRole m bound basis place a (λ s. these s ⊎ (s ≡ links + d)) (role_in after)
  with_key_first these d best after ld are first is = ⊎_elim
      (λ none. subst (λ o. IsFirstRole m bound basis place a (λ s. these s ⊎ (s ≡ links + d)) (role_in o)) (sym none.1) (and_none these (links + d) (role_in best) (key_limits_nothing d ld none.0) first))
      (λ more. ⊎_elim
      (λ same. subst (λ o. IsFirstRole m bound basis place a (λ s. these s ⊎ (s ≡ links + d)) (role_in o)) (sym same.3) (itself same.0 same.1 (same.2 ∙ ap (λ n. n + d) h.shaped.rows)))
      (λ new. let at : new.0.role ≡ links + d = new.1.role ∙ ap (λ n. n + d) h.shaped.rows in
      subst (λ r. IsFirstRole m bound basis place a (λ s. these s ⊎ (s ≡ r)) (role_in after)) at
      (and_key these best new.0 after (omega (arith, at, ld)) (inr (omega (arith, at, h.shaped.rows), of_demand new.0 at new.1)) are first new.2))
      more)
      is
    where
      itself : (y : Candidate) → best ≡ Some y → y.role ≡ links + d → IsFirstRole m bound basis place a (λ s. these s ⊎ (s ≡ links + d)) (role_in best)
      itself y e at =
          let f = subst (λ o. IsFirstRole m bound basis place a these (role_in o)) e first in
          subst (λ o. IsFirstRole m bound basis place a (λ s. these s ⊎ (s ≡ links + d)) (role_in o)) (sym e)
          (and_later these y.role (links + d) (subst (IsNoLaterRole m bound basis place a y.role) at (no_later_itself h.kept a y.role f.1)) f)

      of_demand : (x : Candidate) → x.role ≡ links + d → IsKeyCandidate b d (own_entry name d) x → IsKeyCandidate b (x.role - length b.rows) (own_entry name (x.role - length b.rows)) x
      of_demand x at c = let same : d ≡ x.role - length b.rows = omega (arith, at, h.shaped.rows) in subst (λ e. IsKeyCandidate b e (own_entry name e) x) same c
