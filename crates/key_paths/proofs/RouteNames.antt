-- the columns of a routing program by their names
use Rattle.std.proofs.Common.{◌≡◌, ℕ, List, [], ◌∷◌, length, cond, false, ◌+◌, ◌-◌, ◌<◌, ◌≤◌, inl, inr, ⊎_elim, refl, sym, ap, ◌∙◌, subst, arith, ℤ, pos, ◌+ℤ◌, eq-eqb, ne_eqb}
use Rattle.net_core.proofs.Library.{ForSome, cases_eq, cases_lt, ints}
use Rattle.plan_terms.{specs.Terms.{RouteColumn, LinkSlack, DemandSlack, Carry, Demand, LinkId, AreDemands, Graph, IsNetwork, names_link}, proofs.Lemmas.{DistinctLinks, path_links_differ}}
use Rattle.simplex_law.specs.Terms.{unit_vector, ColumnOf, IsSlack, slack_basis}
use Rattle.route_law.{specs.Terms.{path_entry, route_rows, route_slack, IsCarrying, IsRouteColumn}, proofs.Lemmas.{beside_first, beside_after}}
use Rattle.key_rows.specs.Terms.{IsColumnNamed, path_uses, demand_in, IsNameWithin}
use Rattle.key_paths.{specs.inner.Gaining.IsRouteName, proofs.Carried.{carried_short, carried_place}, proofs.Starting.{slack_named, first, second}}

-- a path without a link twice uses each of its links once
uses_once : (path : List LinkId) (k : ℕ) → DistinctLinks path → path_uses path k ≡ cond (names_link k path) (pos 1) (pos 0)
uses_once [] k distinct = refl
uses_once (x ∷ xs) k distinct = ⊎_elim
    (λ same. let off : names_link k xs ≡ false = subst (λ i. names_link i xs ≡ false) same distinct.0 in
    rw (eq-eqb x.0 k same, uses_once xs k distinct.1, off) (omega (arith, ints)))
    (λ ne. rw (ne_eqb x.0 k ne, uses_once xs k distinct.1) (zero_plus (cond (names_link k xs) (pos 1) (pos 0))))
    (cases_eq x.0 k)
  where
    zero_plus : (z : ℤ) → pos 0 +ℤ z ≡ z
    zero_plus z = omega (arith, ints)

module _ (g : Graph) (demands : List Demand) where
  abbrev links : ℕ
  links = length g.links

  abbrev count : ℕ
  count = length demands

  carrying_named : (c : ColumnOf RouteColumn) → IsCarrying g demands c → IsColumnNamed links count c.name c
  carrying_named c is = subst (λ name. IsColumnNamed links count name c) (sym is.named) (record {
    named = is.named;
    gain = is.gain;
    link = λ k l. is.entry k (omega (arith, l))
        ∙ (beside_first links (λ e. cond (names_link e is.path) (pos 1) (pos 0)) (unit_vector is.place) k l
        ∙ sym (uses_once is.path k (path_links_differ g is.demand.from.0 is.demand.to.0 is.path is.leads)));
    demand = λ d l. is.entry (links + d) (omega (arith, l)) ∙ beside_after links (λ e. cond (names_link e is.path) (pos 1) (pos 0)) (unit_vector is.place) d;
  })

  slack_column_named : (c : ColumnOf RouteColumn) → IsSlack (route_rows g demands) (route_slack g) c → IsColumnNamed links count c.name c
  slack_column_named c is =
      let of_slack = slack_named g count is.row c.name is.inside is.named in
      record {
        named = refl;
        gain = is.gain ∙ of_slack.gain;
        link = λ k l. is.entry k (omega (arith, l)) ∙ of_slack.link k l;
        demand = λ d l. is.entry (links + d) (omega (arith, l)) ∙ of_slack.demand d l;
      }

  -- a column of the program is that of its name
  pub route_named : (c : ColumnOf RouteColumn) → IsRouteColumn g demands c → IsColumnNamed links count c.name c
  route_named c is = ⊎_elim (λ (h : IsCarrying g demands c). carrying_named c h) (λ (h : IsSlack (route_rows g demands) (route_slack g) c). slack_column_named c h) is

  slack_name : (row : ℕ) → row < route_rows g demands → IsRouteName g demands (route_slack g row)
  slack_name row inside = ⊎_elim
      (λ low. subst (IsRouteName g demands) (sym (first g count row low)) low)
      (λ ge. let at : row ≡ links + (row - links) = omega (arith, ge) in
      subst (IsRouteName g demands) (sym (ap (route_slack g) at ∙ second g count (row - links))) (below row inside ge))
      (cases_lt row links)
    where
      below : (row : ℕ) → row < links + count → links ≤ row → row - links < count
      below row inside ge = omega (arith, inside, ge)

  -- the name of a column of the program
  pub route_name : (c : ColumnOf RouteColumn) → IsRouteColumn g demands c → IsRouteName g demands c.name
  route_name c is = ⊎_elim
      (λ (h : IsCarrying g demands c). subst (IsRouteName g demands) (sym h.named) (record { demand = h.demand; at = h.at; needed = h.needed; leads = h.leads }))
      (λ (h : IsSlack (route_rows g demands) (route_slack g) c). subst (IsRouteName g demands) (sym h.named) (slack_name h.row h.inside))
      is

  -- each name has a column
  pub column_named : (name : RouteColumn) → IsRouteName g demands name → (c : ColumnOf RouteColumn) × IsRouteColumn g demands c × (c.name ≡ name)
  column_named (LinkSlack link) is = (
    slack_basis (route_slack g) link.0,
    inr (record { row = link.0; inside = omega (arith, is); named = refl; gain = refl; entry = λ k l. refl }),
    first g count link.0 is,
  )
  column_named (DemandSlack demand) is = (
    slack_basis (route_slack g) (links + demand),
    inr (record { row = links + demand; inside = omega (arith, is); named = refl; gain = refl; entry = λ k l. refl }),
    second g count demand,
  )
  column_named (Carry k path) is = (
    record { name = Carry k path; gain = pos 1; entry = path_entry g k path },
    inl (record { place = k; demand = is.demand; at = is.at; needed = is.needed; path = path; leads = is.leads; named = refl; gain = refl; entry = λ r l. refl }),
    refl,
  )

  -- the demand of a column is one of the demands
  pub name_demand : (name : RouteColumn) → IsRouteName g demands name → ForSome (demand_in name) (λ d. d < length demands)
  name_demand (LinkSlack link) is d of = absurd cc
  name_demand (DemandSlack demand) is d of = let same : demand ≡ d = cc in subst (λ x. x < length demands) same is
  name_demand (Carry k path) is d of = let same : k ≡ d = cc in subst (λ x. x < length demands) same (carried_place g demands k path is)

  -- its links are known, and few
  pub name_within : ∥ IsNetwork g.nodes g.links ∥₁ → AreDemands (length g.nodes) demands → (name : RouteColumn) → IsRouteName g demands name → IsNameWithin links name
  name_within checked belong (LinkSlack link) is = is
  name_within checked belong (DemandSlack demand) is = tt
  name_within checked belong (Carry k path) is = carried_short g demands k path checked belong is
