-- where not all needs can be carried, the capacities violate the cut of the link prices
use Rattle.std.proofs.Common.{◌≡◌, ℕ, zero, suc, ◌+◌, ◌*◌, ◌<◌, ◌≤◌, List, [], ◌∷◌, Some, None, Option, length, map, sum_by, zip, slice_get, slice_index, slice_index_or, get_or, unwrap_or, refl, sym, ap, ◌∙◌, arith, subst, inl, ⊎_elim, mul-le-mul_left, ℤ, pos, ◌+ℤ◌, ◌*ℤ◌, ◌<ℤ◌, ◌≤ℤ◌}
use Rattle.net_core.proofs.Library.{cases_eq, cases_lt, get_or-map, sum_by-cons, slice_get-get_or, slice_get_within, *ℤ_comm, *ℤ-zero, pos-*ℤ-pos, ints, by_lt_z, below-same, below-none, below-first, below-times}
use Rattle.plan_terms.specs.Terms.{RouteColumn, Carry, Demand, Caps, Graph, Joins, sum_below, IsRight, IsDistance, length_of}
use Rattle.simplex_law.{specs.Terms.{int_sum, dot, ColumnOf, IsBest}, proofs.Lemmas.{le_times, distribute_left, sum-same, sum-le, sum-plus, sum-times, sum-split}}
use Rattle.route_law.{specs.PricedLengths.AreLinkPrices, specs.Routings.AreJoined, specs.RoutingPrograms.{scaled_need, total_scaled_need, path_entry, IsCarrying, route_rows, route_bound, IsRouteColumn}, proofs.PathPrices.path_price, proofs.Rows.{beside_first, beside_after, sum-pos}}

-- what capacities give along lengths
abbrev along : List ℕ → List ℕ → ℕ
along lengths nums = sum_by (λ p. p.0 * p.1) (zip lengths nums)

abbrev need_at : List Demand → ℕ → ℕ
need_at demands k = slice_index (map (λ d. d.need) demands) k

along_sum : (xs ys : List ℕ) → along xs ys ≡ sum_below (length xs) (λ e. slice_index xs e * slice_index ys e)
along_sum [] ys = refl
along_sum (x ∷ xs) [] = sym (below-same (suc (length xs)) (λ e. slice_index (x ∷ xs) e * 0) (λ e. 0) (λ e l. omega arith) ∙ below-none (suc (length xs)))
along_sum (x ∷ xs) (y ∷ ys) = omega (arith, sum_by-cons (λ (q : ℕ × ℕ). q.0 * q.1) (x, y) (zip xs ys), below-first (length xs) (λ e. slice_index (x ∷ xs) e * slice_index (y ∷ ys) e), along_sum xs ys)

-- the distance of demand k, 0 where its ends are apart
abbrev far_of : List (Option ℕ) → ℕ → ℕ
far_of far k = unwrap_or (slice_index_or far k None) 0

right_sum : (demands : List Demand) (far : List (Option ℕ)) → sum_by (λ p. p.0.need * unwrap_or p.1 0) (zip demands far) ≡ sum_below (length demands) (λ k. need_at demands k * far_of far k)
right_sum [] far = refl
right_sum (d ∷ ds) [] = sym (below-same (suc (length ds)) (λ k. need_at (d ∷ ds) k * 0) (λ k. 0) (λ k l. omega arith) ∙ below-none (suc (length ds)))
right_sum (d ∷ ds) (o ∷ os) = omega (arith, sum_by-cons (λ (q : Demand × Option ℕ). q.0.need * unwrap_or q.1 0) (d, o) (zip ds os), below-first (length ds) (λ k. need_at (d ∷ ds) k * far_of (o ∷ os) k), right_sum ds os)

module _ (g : Graph) (demands : List Demand) (caps : Caps) (lengths : List ℕ) (basis : ℕ → ColumnOf RouteColumn) (duals : ℕ → ℤ) (den : ℤ)
    (best : IsBest (route_rows g demands) (route_bound g demands caps) (IsRouteColumn g demands) basis duals den) (prices : AreLinkPrices (length g.links) duals lengths)
    (joined : AreJoined g demands) where
  -- a demand with a need: the denominator is at most its distance at the link prices and its own price
  demand_price : (k : ℕ) (d : Demand) (o : Option ℕ) → slice_get demands k ≡ Some d → 0 < d.need → IsDistance (Joins g) lengths d.from.0 d.to.0 o
      → den ≤ℤ (pos (prices.factor * unwrap_or o 0) +ℤ duals (length g.links + k))
  demand_price k d None at needed distance = absurd (joined k d at needed distance)
  demand_price k d (Some x) at needed distance =
      let es = distance.0.0 in
      let path = distance.0.1 in
      let entries : ℕ → ℤ = path_entry g k es in
      let column : ColumnOf RouteColumn = record { name = Carry k es; gain = pos 1; entry = entries } in
      let carrying : IsCarrying g demands column = record { place = k; demand = d; at = at; needed = needed; path = es; leads = path; named = refl; gain = refl; entry = λ i l. refl } in
      let cost = path_price g (length demands) duals prices.factor lengths prices.same k d.from.0 d.to.0 es (slice_get_within demands k d at) path in
      let long : prices.factor * length_of lengths es ≡ prices.factor * x = ap (λ y. prices.factor * y) distance.0.2 in
      by_lt_z (dot (route_rows g demands) duals entries) (den *ℤ pos 1)
      (λ lt. absurd (best.none column (inl carrying) lt))
      (λ ge. omega (arith, ints, ge, cost, long))

  -- where the value is below the needs, the capacities violate the cut of the prices
  pub prices_violate : (right : ℕ) → IsRight (Joins g) lengths demands right
      → dot (route_rows g demands) duals (route_bound g demands caps) <ℤ (den *ℤ pos (total_scaled_need demands caps))
      → along lengths caps.nums < right * caps.scale
  prices_violate right is below =
      let n = length g.links in
      let q = length demands in
      let y : ℕ → ℤ = λ k. duals (n + k) in
      let need : ℕ → ℕ = λ k. scaled_need demands caps k in
      let far : ℕ → ℕ = far_of is.far in
      let taken : ℤ = int_sum q (λ k. y k *ℤ pos (need k)) in
      let least = sum-le q (λ k. den *ℤ pos (need k)) (λ k. pos (prices.factor * (far k * need k)) +ℤ (y k *ℤ pos (need k))) (λ k l. each right is k l) in
      let left : int_sum q (λ k. den *ℤ pos (need k)) ≡ den *ℤ pos (sum_below q need) = sum-times q den (λ k. pos (need k)) ∙ ap (λ x. den *ℤ x) (sum-pos q need) in
      let asked : sum_below q (λ k. far k * need k) ≡ right * caps.scale =
      out q far (λ k. need_at demands k) caps.scale ∙ ap (λ x. x * caps.scale) (below-same q (λ k. far k * need_at demands k) (λ k. need_at demands k * far k) (λ k l. omega arith) ∙ (sym (right_sum demands is.far) ∙ sym is.sum)) in
      let more : int_sum q (λ k. pos (prices.factor * (far k * need k)) +ℤ (y k *ℤ pos (need k))) ≡ pos (prices.factor * (right * caps.scale)) +ℤ taken =
      sum-plus q (λ k. pos (prices.factor * (far k * need k))) (λ k. y k *ℤ pos (need k))
      ∙ ap (λ x. x +ℤ taken) (sum-pos q (λ k. prices.factor * (far k * need k)) ∙ ap pos (below-times q prices.factor (λ k. far k * need k) ∙ ap (λ x. prices.factor * x) asked)) in
      let first : int_sum n (λ e. duals e *ℤ route_bound g demands caps e) ≡ pos (prices.factor * along lengths caps.nums) =
      sum-same n _ (λ e. pos (prices.factor * (slice_index lengths e * slice_index caps.nums e)))
      (λ e l. ap (λ x. duals e *ℤ x) (beside_first n (λ i. pos (slice_index caps.nums i)) (λ k. pos (need k)) e l) ∙ (ap (λ x. x *ℤ pos (slice_index caps.nums e)) (prices.same e l)
      ∙ (pos-*ℤ-pos (prices.factor * slice_index lengths e) (slice_index caps.nums e) ∙ ap pos (omega arith))))
      ∙ (sum-pos n (λ e. prices.factor * (slice_index lengths e * slice_index caps.nums e)) ∙ ap pos (below-times n prices.factor (λ e. slice_index lengths e * slice_index caps.nums e)
      ∙ ap (λ x. prices.factor * x) (ap (λ m. sum_below m (λ e. slice_index lengths e * slice_index caps.nums e)) (sym prices.count) ∙ sym (along_sum lengths caps.nums)))) in
      let second : int_sum q (λ k. duals (n + k) *ℤ route_bound g demands caps (n + k)) ≡ taken =
      sum-same q _ (λ k. y k *ℤ pos (need k)) (λ k l. ap (λ x. y k *ℤ x) (beside_after n (λ i. pos (slice_index caps.nums i)) (λ i. pos (need i)) k)) in
      let worth : dot (route_rows g demands) duals (route_bound g demands caps) ≡ pos (prices.factor * along lengths caps.nums) +ℤ taken =
      sum-split n q (λ i. duals i *ℤ route_bound g demands caps i) ∙ (ap (λ x. x +ℤ int_sum q (λ k. duals (n + k) *ℤ route_bound g demands caps (n + k))) first ∙ ap (λ x. pos (prices.factor * along lengths caps.nums) +ℤ x) second) in
      let less : prices.factor * along lengths caps.nums < prices.factor * (right * caps.scale) = omega (arith, ints, worth, below, least, left, more) in
      ⊎_elim (λ l. l) (λ ge. let back : prices.factor * (right * caps.scale) ≤ prices.factor * along lengths caps.nums = mul-le-mul_left prices.factor ge in absurd (omega (arith, less, back))) (cases_lt (along lengths caps.nums) (right * caps.scale))
    where
      out : (n : ℕ) (v f : ℕ → ℕ) (c : ℕ) → sum_below n (λ j. v j * (f j * c)) ≡ sum_below n (λ j. v j * f j) * c
      out zero v f c = omega arith
      out (suc n) v f c = omega (arith, out n v f c)

      none_demand : Demand
      none_demand = record { name = []; from = record { 0 = 0 }; to = record { 0 = 0 }; need = 0 }

      zero_part : (y : ℤ) (f : ℕ) (b : ℕ) → b ≡ 0 → (den *ℤ pos b) ≤ℤ (pos (prices.factor * (f * b)) +ℤ (y *ℤ pos b))
      zero_part y f b e = subst (λ x. (den *ℤ pos x) ≤ℤ (pos (prices.factor * (f * x)) +ℤ (y *ℤ pos x))) (sym e) (omega (arith, ints, *ℤ-zero den, *ℤ-zero y))

      part : (y : ℤ) (f b : ℕ) → den ≤ℤ (pos (prices.factor * f) +ℤ y) → (den *ℤ pos b) ≤ℤ (pos (prices.factor * (f * b)) +ℤ (y *ℤ pos b))
      part y f b le =
          let t = le_times (pos b) den (pos (prices.factor * f) +ℤ y) (omega (arith, ints)) le in
          let p : pos b *ℤ pos (prices.factor * f) ≡ pos (prices.factor * (f * b)) = pos-*ℤ-pos b (prices.factor * f) ∙ ap pos (omega arith) in
          omega (arith, ints, t, distribute_left (pos (prices.factor * f)) y (pos b), p, *ℤ_comm (pos b) y, *ℤ_comm (pos b) den)

      each : (right : ℕ) (is : IsRight (Joins g) lengths demands right) (k : ℕ) → k < length demands
          → (den *ℤ pos (scaled_need demands caps k)) ≤ℤ (pos (prices.factor * (far_of is.far k * (scaled_need demands caps k))) +ℤ (duals (length g.links + k) *ℤ pos (scaled_need demands caps k)))
      each right is k l =
          let d = get_or demands k none_demand in
          let at : slice_get demands k ≡ Some d = slice_get-get_or demands k none_demand l in
          let of : need_at demands k ≡ d.need = get_or-map (λ (e : Demand). e.need) demands k none_demand 0 l in
          ⊎_elim
          (λ z. zero_part (duals (length g.links + k)) (far_of is.far k) (scaled_need demands caps k) (ap (λ x. x * caps.scale) z ∙ omega arith))
          (λ some. part (duals (length g.links + k)) (far_of is.far k) (scaled_need demands caps k) (demand_price k d (slice_index_or is.far k None) at (omega (arith, of, some)) (is.each k d at)))
          (cases_eq (need_at demands k) 0)
