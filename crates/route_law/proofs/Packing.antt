-- the routing program is a packing program, where its bounds are narrow
use Rattle.std.proofs.Common.{◌≡◌, ℕ, ◌+◌, ◌-◌, ◌<◌, ◌≤◌, List, true, false, cond, eqb, length, slice_index, sym, ap, ◌∙◌, arith, subst, ⊎_elim, ℤ, pos, ◌<ℤ◌, ◌≤ℤ◌}
use Rattle.net_core.proofs.Library.{cases_lt, slice_get_within, ints}
use Rattle.checked_fraction.specs.Terms.{IsNarrow}
use Rattle.plan_terms.specs.Terms.{RouteColumn, LinkSlack, DemandSlack, Carry, Demand, LinkId, Caps, Graph, names_link}
use Rattle.simplex_law.{specs.Terms.{unit_vector, ColumnOf, IsSlack, IsProgramColumn, IsPacking}, proofs.Lemmas.unit-same}
use Rattle.route_law.{specs.RoutingPrograms.{scaled_need, path_entry, IsCarrying, route_rows, route_bound, route_slack, IsRouteColumn}, proofs.Rows.{beside_first, beside_second, beside_after, beside_each}}

abbrev link_id : ℕ → LinkId
link_id e = record { 0 = e }

narrow_unit : (i k : ℕ) → (pos 0 ≤ℤ unit_vector i k) × IsNarrow (unit_vector i k)
narrow_unit i k = elim (eqb i k) as (λ t. (pos 0 ≤ℤ cond t (pos 1) (pos 0)) × IsNarrow (cond t (pos 1) (pos 0))) [ true ↦ (omega (arith, ints), omega arith) | false ↦ (omega (arith, ints), omega arith) ]

-- a program of listed columns and slacks is a packing program
pub program_packing : {N : Type 0} (m : ℕ) (bound : ℕ → ℤ) (slack : ℕ → N) (is_listed : ColumnOf N → Type 0)
    → ((k : ℕ) → k < m → (pos 0 ≤ℤ bound k) × IsNarrow (bound k))
    → ((c : ColumnOf N) → is_listed c → IsNarrow c.gain)
    → ((c : ColumnOf N) → is_listed c → (k : ℕ) → k < m → (pos 0 ≤ℤ c.entry k) × IsNarrow (c.entry k))
    → ((c : ColumnOf N) → is_listed c → (k : ℕ) × (k < m) × (pos 0 <ℤ c.entry k))
    → ((c d : ColumnOf N) → is_listed c → is_listed d → c.name ≡ d.name → (c.gain ≡ d.gain) × ((k : ℕ) → k < m → c.entry k ≡ d.entry k))
    → ((i j : ℕ) → i < m → j < m → slack i ≡ slack j → i ≡ j)
    → ((c : ColumnOf N) → is_listed c → (k : ℕ) → k < m → c.name ≡ slack k → ⊥)
    → IsPacking m bound (IsProgramColumn m slack is_listed)
program_packing {N} m bound slack is_listed bounds gains entries limited named apart never = record {
  bounds = bounds;
  gains = λ c is. ⊎_elim (λ l. gains c l) (λ (s : IsSlack m slack c). subst IsNarrow (sym s.gain) (omega arith)) is;
  entries = λ c is k l. ⊎_elim (λ h. entries c h k l) (λ (s : IsSlack m slack c). subst (λ x. (pos 0 ≤ℤ x) × IsNarrow x) (sym (s.entry k l)) (narrow_unit s.row k)) is;
  limited = λ c is above. ⊎_elim (λ h. limited c h) (λ (s : IsSlack m slack c). absurd (omega (arith, ints, above, s.gain))) is;
  named = λ c d is other same. ⊎_elim
      (λ (h : is_listed c). ⊎_elim (λ (g : is_listed d). named c d h g same) (λ (t : IsSlack m slack d). absurd (never c h t.row t.inside (same ∙ t.named))) other)
      (λ (s : IsSlack m slack c). ⊎_elim
      (λ (g : is_listed d). absurd (never d g s.row s.inside (sym same ∙ s.named)))
      (λ (t : IsSlack m slack d). let rows : s.row ≡ t.row = apart s.row t.row s.inside t.inside (sym s.named ∙ (same ∙ t.named)) in
      (s.gain ∙ sym t.gain, λ k l. s.entry k l ∙ (ap (λ r. unit_vector r k) rows ∙ sym (t.entry k l))))
      other)
      is;
}

-- the two kinds of slacks, and those of one kind, have different names
link_once : (a b : ℕ) → LinkSlack (record { 0 = a }) ≡ LinkSlack (record { 0 = b }) → a ≡ b
link_once a b h = let ids : link_id a ≡ link_id b = cc h in ap (λ (x : LinkId). x.0) ids

demand_once : (a b : ℕ) → DemandSlack a ≡ DemandSlack b → a ≡ b
demand_once a b h = cc h

never : (a b : ℕ) → LinkSlack (record { 0 = a }) ≡ DemandSlack b → ⊥
never a b h = cc h

module _ (g : Graph) where
  first_slack : (i : ℕ) → i < length g.links → route_slack g i ≡ LinkSlack (record { 0 = i })
  first_slack i l = beside_first (length g.links) (λ e. LinkSlack (record { 0 = e })) (λ k. DemandSlack k) i l

  second_slack : (i : ℕ) → length g.links ≤ i → route_slack g i ≡ DemandSlack (i - length g.links)
  second_slack i l = beside_second (length g.links) (λ e. LinkSlack (record { 0 = e })) (λ k. DemandSlack k) i l

  slacks_apart : (i j : ℕ) → route_slack g i ≡ route_slack g j → i ≡ j
  slacks_apart i j e = ⊎_elim
      (λ li. ⊎_elim
      (λ lj. link_once i j (sym (first_slack i li) ∙ (e ∙ first_slack j lj)))
      (λ gj. absurd (never i (j - length g.links) (sym (first_slack i li) ∙ (e ∙ second_slack j gj))))
      (cases_lt j (length g.links)))
      (λ gi. ⊎_elim
      (λ lj. absurd (never j (i - length g.links) (sym (first_slack j lj) ∙ (sym e ∙ second_slack i gi))))
      (λ gj. let same = demand_once (i - length g.links) (j - length g.links) (sym (second_slack i gi) ∙ (e ∙ second_slack j gj)) in omega (arith, same, gi, gj))
      (cases_lt j (length g.links)))
      (cases_lt i (length g.links))

  pub no_slack : (place : ℕ) (path : List LinkId) (k : ℕ) → Carry place path ≡ route_slack g k → ⊥
  no_slack place path k = beside_each (λ name. Carry place path ≡ name → ⊥) (length g.links) (λ e. LinkSlack (record { 0 = e })) (λ i. DemandSlack i) k (λ l e. cc e) (λ l e. cc e)

  narrow_entry : (place : ℕ) (path : List LinkId) (k : ℕ) → (pos 0 ≤ℤ path_entry g place path k) × IsNarrow (path_entry g place path k)
  narrow_entry place path k = beside_each (λ x. (pos 0 ≤ℤ x) × IsNarrow x) (length g.links) (λ e. cond (names_link e path) (pos 1) (pos 0)) (unit_vector place) k
      (λ l. elim (names_link k path) as (λ t. (pos 0 ≤ℤ cond t (pos 1) (pos 0)) × IsNarrow (cond t (pos 1) (pos 0))) [ true ↦ (omega (arith, ints), omega arith) | false ↦ (omega (arith, ints), omega arith) ])
      (λ l. narrow_unit place (k - length g.links))

  module _ (demands : List Demand) (caps : Caps) where
    own_row : (c : ColumnOf RouteColumn) (is : IsCarrying g demands c) → c.entry (length g.links + is.place) ≡ pos 1
    own_row c is = is.entry (length g.links + is.place) (omega (arith, slice_get_within demands is.place is.demand is.at))
        ∙ (beside_after (length g.links) (λ e. cond (names_link e is.path) (pos 1) (pos 0)) (unit_vector is.place) is.place ∙ unit-same is.place)

    same_column : (c d : ColumnOf RouteColumn) → IsCarrying g demands c → IsCarrying g demands d → c.name ≡ d.name → (c.gain ≡ d.gain) × ((k : ℕ) → k < route_rows g demands → c.entry k ≡ d.entry k)
    same_column c d is other same =
        let name : Carry is.place is.path ≡ Carry other.place other.path = sym is.named ∙ (same ∙ other.named) in
        let places : is.place ≡ other.place = cc name in
        let paths : is.path ≡ other.path = cc name in
        (is.gain ∙ sym other.gain, λ k l. is.entry k l ∙ (ap (λ p. path_entry g is.place p k) paths ∙ (ap (λ i. path_entry g i other.path k) places ∙ sym (other.entry k l))))

    -- no bound is negative
    pub bound_nonneg : (k : ℕ) → pos 0 ≤ℤ route_bound g demands caps k
    bound_nonneg k = beside_each (λ x. pos 0 ≤ℤ x) (length g.links) (λ e. pos (slice_index caps.nums e)) (λ i. pos (scaled_need demands caps i)) k (λ h. omega (arith, ints)) (λ h. omega (arith, ints))

    pub route_packing : ((k : ℕ) → k < route_rows g demands → IsNarrow (route_bound g demands caps k))
        → IsPacking (route_rows g demands) (route_bound g demands caps) (IsRouteColumn g demands)
    route_packing narrow = program_packing (route_rows g demands) (route_bound g demands caps) (route_slack g) (IsCarrying g demands)
        (λ k l. (bound_nonneg k, narrow k l))
        (λ c is. subst IsNarrow (sym is.gain) (omega arith))
        (λ c is k l. subst (λ x. (pos 0 ≤ℤ x) × IsNarrow x) (sym (is.entry k l)) (narrow_entry is.place is.path k))
        (λ c is. (length g.links + is.place, omega (arith, slice_get_within demands is.place is.demand is.at), subst (λ x. pos 0 <ℤ x) (sym (own_row c is)) (omega (arith, ints))))
        same_column
        (λ i j li lj e. slacks_apart i j e)
        (λ c is k l e. no_slack is.place is.path k (sym is.named ∙ e))
