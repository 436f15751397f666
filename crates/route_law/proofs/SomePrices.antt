-- where not all needs can be met, a surviving link has a price
use Rattle.std.proofs.Common.{◌≡◌, ℕ, ◌+◌, ◌*◌, ◌<◌, List, [], ◌∷◌, Some, length, slice_get, slice_index, get_or, refl, sym, ap, ◌∙◌, arith, subst, inl, ⊎_elim, ℤ, pos, ◌+ℤ◌, ◌*ℤ◌, ◌<ℤ◌, ◌≤ℤ◌}
use Rattle.net_core.proofs.Library.{cases_eq, get_or-map, slice_get-get_or, slice_get_within, *ℤ-zero, *ℤ_comm, pos-*ℤ-pos, ints, by_lt_z}
use Rattle.plan_terms.specs.Terms.{RouteColumn, Carry, Demand, LinkId, Caps, Graph, Joins, AreZero, Leads, length_of}
use Rattle.simplex_law.{specs.Terms.{int_sum, dot, ColumnOf, IsBest}, proofs.Lemmas.{le_times, sum-le, sum-none, sum-times, sum-split}}
use Rattle.route_law.{specs.Routings.AreJoined, specs.RoutingPrograms.{scaled_need, total_scaled_need, path_entry, IsCarrying, route_rows, route_bound, IsRouteColumn}, proofs.PathPrices.path_price, proofs.Rows.{beside_first, beside_after, sum-pos}}

module _ (g : Graph) (demands : List Demand) (caps : Caps) (basis : ℕ → ColumnOf RouteColumn) (duals : ℕ → ℤ) (den : ℤ)
    (best : IsBest (route_rows g demands) (route_bound g demands caps) (IsRouteColumn g demands) basis duals den) (factor : ℕ) (lengths : List ℕ)
    (same : (e : ℕ) → e < length g.links → duals e ≡ pos (factor * slice_index lengths e)) (joined : AreJoined g demands) (zeros : AreZero g lengths) where
  no_length : (a : ℕ) (es : List LinkId) (cs : List ℕ) → Leads (Joins g) a es cs → length_of lengths es ≡ 0
  no_length a [] [] leads = refl
  no_length a [] (c ∷ cs) leads = absurd leads
  no_length a (e ∷ es) [] leads = absurd leads
  no_length a (e ∷ es) (c ∷ cs) leads = omega (arith, zeros e.0 leads.0.survives, no_length c es cs leads.1)

  -- the row of a demand that has a need costs all of what its flow gains
  full : (k : ℕ) (d : Demand) → slice_get demands k ≡ Some d → 0 < d.need → den ≤ℤ duals (length g.links + k)
  full k d at needed = by_lt_z (duals (length g.links + k)) den
      (λ less. absurd (joined k d at needed (λ es path.
      let c : ColumnOf RouteColumn = record { name = Carry k es; gain = pos 1; entry = path_entry g k es } in
      let is : IsCarrying g demands c = record { place = k; demand = d; at = at; needed = needed; path = es; leads = path; named = refl; gain = refl; entry = λ i l. refl } in
      let cost = path_price g (length demands) duals factor lengths same k d.from.0 d.to.0 es (slice_get_within demands k d at) path in
      let none : factor * length_of lengths es ≡ 0 = ap (λ x. factor * x) (no_length d.from.0 es path.0 path.1) ∙ omega arith in
      best.none c (inl is) (lower (dot (route_rows g demands) duals (path_entry g k es)) (duals (length g.links + k)) (factor * length_of lengths es) cost none less))))
      (λ h. h)
    where
      lower : (x y : ℤ) (n : ℕ) → x ≡ pos n +ℤ y → n ≡ 0 → y <ℤ den → x <ℤ (den *ℤ pos 1)
      lower x y n e z l = omega (arith, ints, e, z, l)

  none_demand : Demand
  none_demand = record { name = []; from = record { 0 = 0 }; to = record { 0 = 0 }; need = 0 }

  priced : (k : ℕ) → k < length demands → (den *ℤ pos (scaled_need demands caps k)) ≤ℤ (duals (length g.links + k) *ℤ pos (scaled_need demands caps k))
  priced k l =
      let d = get_or demands k none_demand in
      let at : slice_get demands k ≡ Some d = slice_get-get_or demands k none_demand l in
      let of : scaled_need demands caps k ≡ d.need * caps.scale = ap (λ x. x * caps.scale) (get_or-map (λ (e : Demand). e.need) demands k none_demand 0 l) in
      by_cases (d.need) at of
    where
      nothing : (y : ℤ) (b : ℕ) → b ≡ 0 → (den *ℤ pos b) ≤ℤ (y *ℤ pos b)
      nothing y b e = subst (λ x. (den *ℤ pos x) ≤ℤ (y *ℤ pos x)) (sym e) (omega (arith, ints, *ℤ-zero den, *ℤ-zero y))

      much : (y : ℤ) (b : ℕ) → den ≤ℤ y → (den *ℤ pos b) ≤ℤ (y *ℤ pos b)
      much y b le = omega (arith, ints, le_times (pos b) den y (omega (arith, ints)) le, *ℤ_comm (pos b) den, *ℤ_comm (pos b) y)

      by_cases : (need : ℕ) → slice_get demands k ≡ Some (get_or demands k none_demand) → scaled_need demands caps k ≡ (get_or demands k none_demand).need * caps.scale
          → (den *ℤ pos (scaled_need demands caps k)) ≤ℤ (duals (length g.links + k) *ℤ pos (scaled_need demands caps k))
      by_cases need at of = ⊎_elim
          (λ z. nothing (duals (length g.links + k)) (scaled_need demands caps k) (of ∙ (ap (λ x. x * caps.scale) z ∙ omega arith)))
          (λ some. much (duals (length g.links + k)) (scaled_need demands caps k) (full k (get_or demands k none_demand) at (omega (arith, some))))
          (cases_eq (get_or demands k none_demand).need 0)

  pub some_price : dot (route_rows g demands) duals (route_bound g demands caps) <ℤ (den *ℤ pos (total_scaled_need demands caps)) → ⊥
  some_price below =
      let n = length g.links in
      let q = length demands in
      let links : pos 0 ≤ℤ int_sum n (λ e. duals e *ℤ route_bound g demands caps e) =
      subst (λ x. x ≤ℤ int_sum n (λ e. duals e *ℤ route_bound g demands caps e)) (sum-none n)
      (sum-le n (λ e. pos 0) (λ e. duals e *ℤ route_bound g demands caps e) (λ e l. at_least (duals e) (route_bound g demands caps e) (factor * slice_index lengths e) (slice_index caps.nums e) (same e l) (beside_first n (λ i. pos (slice_index caps.nums i)) (λ i. pos (scaled_need demands caps i)) e l))) in
      let needs : (den *ℤ pos (total_scaled_need demands caps)) ≤ℤ int_sum q (λ k. duals (n + k) *ℤ route_bound g demands caps (n + k)) =
      subst (λ x. x ≤ℤ int_sum q (λ k. duals (n + k) *ℤ route_bound g demands caps (n + k))) (sum-times q den (λ k. pos (scaled_need demands caps k)) ∙ ap (λ x. den *ℤ x) (sum-pos q (scaled_need demands caps)))
      (sum-le q (λ k. den *ℤ pos (scaled_need demands caps k)) (λ k. duals (n + k) *ℤ route_bound g demands caps (n + k))
      (λ k l. subst (λ x. (den *ℤ pos (scaled_need demands caps k)) ≤ℤ (duals (n + k) *ℤ x)) (sym (beside_after n (λ i. pos (slice_index caps.nums i)) (λ i. pos (scaled_need demands caps i)) k)) (priced k l))) in
      omega (arith, ints, below, sum-split n q (λ i. duals i *ℤ route_bound g demands caps i), links, needs)
    where
      at_least : (x y : ℤ) (a b : ℕ) → x ≡ pos a → y ≡ pos b → pos 0 ≤ℤ (x *ℤ y)
      at_least x y a b ex ey = subst (λ z. pos 0 ≤ℤ z) (sym (ap (λ z. z *ℤ y) ex ∙ (ap (λ z. pos a *ℤ z) ey ∙ pos-*ℤ-pos a b))) (omega (arith, ints))
